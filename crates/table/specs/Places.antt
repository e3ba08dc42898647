-- Where the items of an expression stand. Assumes nothing.
use Rattle.std.specs.Prelude.{◌≡◌, ℕ, ◌<◌, ◌≤◌, List, [], ◌∷◌, length, drop, Some, None, Option, slice_index}
use Rattle.grammar.specs.declared.items.Item.{Item}
use Rattle.grammar.specs.Grammar as g
use Rattle.grammar.specs.Items.{IsItem, Written}
use Rattle.grammar.specs.Parse.{items}

-- from the place on the items is are written in e, and no more
pub record WrittenAt (e : List ℕ) (place : ℕ) (is : List g.Item) : Type 0 where
  pub within : place ≤ length e
  pub written : Written (drop place e) is

-- it is the first of the items, if there is one
abbrev pub FirstIs : List g.Item → Option Item → Type 0
FirstIs [] None = Unit {0}
FirstIs [] (Some x) = ⊥
FirstIs (y ∷ is) None = ⊥
FirstIs (y ∷ is) (Some x) = IsItem x y

-- the items of e stand at the places
pub record Stand (e places : List ℕ) : Type 0 where
  pub all : length places ≡ length (items e)
  pub each : (k : ℕ) → k < length places → WrittenAt e (slice_index places k) (drop k (items e))
