-- What comes behind items that leave no choice. Assumes nothing.
use Rattle.std.specs.Prelude.{◌≡◌, ℕ, ◌<◌, ◌≤◌, List, length, Some, None, Option}
use Rattle.grammar.specs.declared.items.Items.{Items}
use Rattle.ways.specs.declared.cursor.Cursor.{Cursor}
use Rattle.tries.specs.declared.forward.Choice.{Choice}
use Rattle.tries.specs.declared.forward.Choice.TheVariants as c
use Rattle.tries.specs.Tried.{Tried, TriedMost, TriedBracket}

-- what the tries of the items come to, those of the items left from `here` on say, with the places ms noted
abbrev pub Passed : List ℕ → Items → Cursor → Items → Cursor → Type 0
Passed ms items from left here = (r : Option ℕ) (ns : List ℕ) → Tried left here ms r ns → Tried items from ms r ns

-- those from `next` on say it, and if they find nothing, those from `here` on
pub record PassedMaybe (items : Items) (from : Cursor) (left : Items) (here next : Cursor) : Type 0 where
  pub line : next.line.now ≡ here.line.now
  pub first : (ms : List ℕ) (e : ℕ) (ns : List ℕ) → Tried left next ms (Some e) ns → Tried items from ms (Some e) ns
  pub again : (ms mid : List ℕ) (r : Option ℕ) (ns : List ℕ) → Tried left next ms None mid → Tried left here mid r ns → Tried items from ms r ns

-- where c comes, and left are the items behind it
abbrev pub Comes : Items → Cursor → Choice → Items → Cursor → Type 0
Comes items from (c.Ended r) left here = (ms : List ℕ) → Tried items from ms r ms
Comes items from (c.Maybe next) left here = PassedMaybe items from left here next
Comes items from (c.Many piece) left here = (ms : List ℕ) (r : Option ℕ) (ns : List ℕ) → TriedMost piece left here ms r ns → Tried items from ms r ns
Comes items from c.Bracket left here = (ms : List ℕ) (r : Option ℕ) (ns : List ℕ) → TriedBracket left here ms r ns → Tried items from ms r ns

-- fewer items are left, unless they ended
abbrev pub Onward : Items → Choice → Items → Type 0
Onward items (c.Ended r) left = length left.rest.now ≤ length items.rest.now
Onward items (c.Maybe next) left = length left.rest.now < length items.rest.now
Onward items (c.Many piece) left = length left.rest.now < length items.rest.now
Onward items c.Bracket left = length left.rest.now < length items.rest.now
