-- What the cells of a table tell: which items match from which places of a line. Assumes nothing.
use Rattle.std.specs.Prelude.{◌≡◌, ℕ, suc, ◌<◌, Bool, false, List, ◌∷◌, length, is_some, slice_index_or}
use Rattle.std.specs.Str.{IsCharBoundary}
use Rattle.grammar.specs.declared.items.Piece.{Piece}
use Rattle.grammar.specs.declared.items.Times.{Times}
use Rattle.grammar.specs.declared.items.Item.{Item}
use Rattle.grammar.specs.Grammar as g
use Rattle.grammar.specs.Items.{IsPiece, IsItem, times_of}
use Rattle.ways.specs.declared.cursor.Cursor.{Cursor}
use Rattle.ways.specs.Match.{run}
use Rattle.ways.specs.Meaning.{leading}
use Rattle.table.specs.declared.cell.Rows.{Rows}

-- each cell of an edge of the line tells whether the items js match from there
abbrev pub Knows : List ℕ → List g.Item → List Bool → Type 0
Knows l js cells = (p : ℕ) → IsCharBoundary l p → slice_index_or cells p false ≡ is_some (run l js p)

-- the same of the edges above p
abbrev pub KnowsAbove : List ℕ → ℕ → List g.Item → List Bool → Type 0
KnowsAbove l p js cells = (q : ℕ) → p < q → IsCharBoundary l q → slice_index_or cells q false ≡ is_some (run l js q)

-- a row of a table: a cell for each place, the line's end too
pub record Row (l : List ℕ) (js : List g.Item) (cells : List Bool) : Type 0 where
  pub long : length cells ≡ suc (length l)
  pub knows : Knows l js cells

-- r tells whether the piece, as often as it is written, and any items js behind it match from the cursor's place
abbrev pub TellsTaken : Piece → Times → Cursor → Rows → Bool → Type 0
TellsTaken t times at rows r =
    (x : g.Piece) (v : g.Times) (js : List g.Item) → IsPiece t x → times ≡ times_of v
    → Knows at.line.now js rows.below.now → KnowsAbove at.line.now at.place (g.takes x v ∷ js) rows.here.now
    → r ≡ is_some (run at.line.now (g.takes x v ∷ js) at.place)

-- r tells whether the item, and any items js behind it, match from there up to the next bar
abbrev pub Tells : Item → Cursor → Rows → Bool → Type 0
Tells item at rows r =
    (y : g.Item) (js : List g.Item) → IsItem item y
    → Knows at.line.now (leading js) rows.below.now → KnowsAbove at.line.now at.place (leading (y ∷ js)) rows.here.now
    → r ≡ is_some (run at.line.now (leading (y ∷ js)) at.place)

-- a row of any items js gives one of the item and them
abbrev pub RowOn : Item → List ℕ → List Bool → List Bool → Type 0
RowOn item l below cells =
    (y : g.Item) (js : List g.Item) → IsItem item y → Row l (leading js) below → Row l (leading (y ∷ js)) cells
