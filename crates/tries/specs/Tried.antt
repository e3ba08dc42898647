-- What the tries of an alternative come to. Assumes nothing.
use Rattle.std.specs.Prelude.{◌≡◌, ℕ, ◌+◌, ◌≤◌, Bool, true, false, List, ◌∷◌, ◌++◌, length, reverse, Some, None, Option, Result, Ok, Err, ◌==◌}
use Rattle.grammar.specs.declared.items.Piece.{Piece}
use Rattle.grammar.specs.declared.items.Times.{Times}
use Rattle.grammar.specs.declared.items.Item.{Item}
use Rattle.grammar.specs.declared.items.Item.TheVariants as i
use Rattle.grammar.specs.declared.items.Items.{Items}
use Rattle.grammar.specs.Grammar as g
use Rattle.grammar.specs.Items.{IsPiece, times_of, Written}
use Rattle.ways.specs.declared.cursor.Cursor.{Cursor}
use Rattle.ways.specs.Match.{Way, at_end, run}
use Rattle.ways.specs.Meaning.{leading, end_of}
use Rattle.ways.specs.Matched.{is_bracket, brackets}

-- an item that takes nothing holds at p
abbrev pub holds_at : Item → List ℕ → ℕ → Bool
holds_at (i.Take x t) l p = false
holds_at i.Start l p = p == 0
holds_at i.End l p = at_end l p
holds_at i.Never l p = false
holds_at i.Open l p = false
holds_at i.Close l p = false
holds_at i.Bar l p = false

-- the places ms that were noted stay, and others are noted behind them only where a match was found
abbrev pub NotedBehind : {S : Type 0} → List ℕ → Result (Option ℕ) S → List ℕ → Type 0
NotedBehind ms (Ok None) ns = ns ≡ ms
NotedBehind ms (Ok (Some q)) ns = (ps : List ℕ) × (ns ≡ ms ++ ps)
NotedBehind ms (Err stop) ns = ns ≡ ms

-- r is where the items js end from p on, whose first way is o; behind the places in ms those of their brackets are noted, the
-- last one first, as long as there is room for 30
abbrev pub Ends : List g.Item → ℕ → Option Way → List ℕ → Option ℕ → List ℕ → Type 0
Ends js p o ms None ns = (o ≡ None) × (ns ≡ ms)
Ends js p o ms (Some q) ns =
    (w : Way) × (o ≡ Some w) × (end_of p w ≡ q) × (length ms + length (brackets js w) ≤ 30 → ns ≡ ms ++ reverse (brackets js w))

-- where they end from a place of a line on
abbrev pub EndsAt : Cursor → List g.Item → List ℕ → Option ℕ → List ℕ → Type 0
EndsAt from js = Ends js from.place (run from.line.now js from.place)

-- the items that are left, up to the next bar
pub record Tried (items : Items) (from : Cursor) (ms : List ℕ) (r : Option ℕ) (ns : List ℕ) : Type 0 where
  pub ends : (is : List g.Item) → Written items.rest.now is → EndsAt from (leading is) ms r ns

-- a piece, as often as it is written, and the items behind it
pub record TriedTimes (t : Piece) (times : Times) (items : Items) (from : Cursor) (ms : List ℕ) (r : Option ℕ) (ns : List ℕ) : Type 0 where
  pub ends : (x : g.Piece) (u : g.Times) (is : List g.Item) → IsPiece t x → times ≡ times_of u → Written items.rest.now is
      → EndsAt from (g.takes x u ∷ leading is) ms r ns

-- a piece, as often as can be, and the items behind it
pub record TriedMost (t : Piece) (items : Items) (from : Cursor) (ms : List ℕ) (r : Option ℕ) (ns : List ℕ) : Type 0 where
  pub ends : (x : g.Piece) (is : List g.Item) → IsPiece t x → Written items.rest.now is
      → EndsAt from (g.takes x g.many ∷ leading is) ms r ns

-- a bracket, and the items behind it
pub record TriedBracket (items : Items) (from : Cursor) (ms : List ℕ) (r : Option ℕ) (ns : List ℕ) : Type 0 where
  pub ends : (x : g.Item) (is : List g.Item) → is_bracket x ≡ true → Written items.rest.now is → EndsAt from (x ∷ leading is) ms r ns
