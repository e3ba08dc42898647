-- What a table remembers of an expression and a line. Assumes nothing.
use Rattle.std.specs.Prelude.{◌≡◌, ℕ, zero, suc, ◌≤◌, Bool, List, [], ◌∷◌, length, drop, vec_items, Vec, nat_lt}
use Rattle.grammar.specs.Grammar as g
use Rattle.grammar.specs.Parse.{items}
use Rattle.ways.specs.declared.start.Start.{Start}
use Rattle.ways.specs.Meaning.{leading}
use Rattle.ways.specs.Starts.{Begins}
use Rattle.table.specs.declared.fill.Table.{Table}
use Rattle.table.specs.Cells.{Row}

-- the cells of the row n
abbrev pub row_at : {Z : Type 0} → List (Vec Bool Z) → ℕ → List Bool
row_at [] n = []
row_at (v ∷ vs) zero = vec_items v
row_at (v ∷ vs) (suc n) = row_at vs n

-- there is a row
abbrev pub is_filled : Table → Bool
is_filled t = nat_lt 0 (length (vec_items t.rows))

-- there is a row for the items is, for those behind the first, and so on, and one for no item
pub record RowsOf {Z : Type 0} (l : List ℕ) (is : List g.Item) (rows : List (Vec Bool Z)) : Type 0 where
  pub count : length rows ≡ suc (length is)
  pub each : (n : ℕ) → n ≤ length is → Row l (leading (drop n is)) (row_at rows n)

-- the rows of all items of e
abbrev pub Filled : List ℕ → List ℕ → Table → Type 0
Filled e l t = RowsOf l (items e) (vec_items t.rows)

-- where the table is filled, the rows of an alternative and of those behind it, if one begins at s
abbrev pub RowsFrom : {Z : Type 0} → Table → Start → List (Vec Bool Z) → Type 0
RowsFrom t s rows = (e l : List ℕ) (is : List g.Item) → Filled e l t → Begins e s is → RowsOf l is rows
