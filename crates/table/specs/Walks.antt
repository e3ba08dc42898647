-- The preferred way by what is known of the cells. Assumes nothing.
use Rattle.std.specs.Prelude.{◌≡◌, ℕ, Bool, true, List, ◌∷◌, is_some, Some, Vec}
use Rattle.grammar.specs.declared.items.Piece.{Piece}
use Rattle.grammar.specs.declared.items.Times.{Times}
use Rattle.grammar.specs.Grammar as g
use Rattle.grammar.specs.Items.{IsPiece, times_of, Written}
use Rattle.ways.specs.declared.cursor.Cursor.{Cursor}
use Rattle.ways.specs.declared.find.Matched.{Matched}
use Rattle.ways.specs.Match.{from, run}
use Rattle.ways.specs.Meaning.{leading}
use Rattle.ways.specs.Matched.{Matches}
use Rattle.table.specs.declared.cell.Rows.{Rows}
use Rattle.table.specs.Cells.{Knows}
use Rattle.table.specs.Tables.{RowsOf}

-- a piece may be taken any number of times
abbrev pub Repeats : g.Times → Type 0
Repeats g.once = ⊥
Repeats g.maybe = ⊥
Repeats g.many = Unit {0}
Repeats g.some = Unit {0}

-- the first way of as many as can be, and the items js behind, leads from the cursor's place to r first
abbrev pub GoesMost : Piece → Cursor → Rows → ℕ → Type 0
GoesMost t at rows r =
    (x : g.Piece) (v : g.Times) (js : List g.Item) → IsPiece t x → Repeats v
    → Knows at.line.now (g.takes x v ∷ js) rows.here.now → Knows at.line.now js rows.below.now
    → run at.line.now (g.takes x g.many ∷ js) at.place ≡ from r (run at.line.now js r)

-- where there is a way of the piece, as often as it is written, and of the items js behind, the first leads from there to r first
abbrev pub Goes : Piece → Times → Cursor → Rows → ℕ → Type 0
Goes t times at rows r =
    (x : g.Piece) (v : g.Times) (js : List g.Item) → IsPiece t x → times ≡ times_of v
    → Knows at.line.now (g.takes x v ∷ js) rows.here.now → Knows at.line.now js rows.below.now
    → is_some (run at.line.now (g.takes x v ∷ js) at.place) ≡ true
    → run at.line.now (g.takes x v ∷ js) at.place ≡ from r (run at.line.now js r)

-- where there is a way of the items that are written so, up to the next bar, and the rows are theirs, m is the match of the first
abbrev pub Follows : {Z : Type 0} → List (Vec Bool Z) → List ℕ → Cursor → Matched → Type 0
Follows rows bytes at m =
    (is : List g.Item) → Written bytes is → RowsOf at.line.now is rows
    → is_some (run at.line.now (leading is) at.place) ≡ true
    → Matches (leading is) at.place (run at.line.now (leading is) at.place) (Some m)
