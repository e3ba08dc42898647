-- A piece of the grammar, as it was read, and one step of it. Assumes nothing.
use Rattle.std.specs.Prelude.{◌≡◌, ℕ, Bool, List, Some, None, Option}
use Rattle.grammar.specs.declared.items.Piece.{Piece}
use Rattle.grammar.specs.Grammar as g
use Rattle.grammar.specs.Items.{IsPiece}
use Rattle.ways.specs.declared.cursor.Cursor.{Cursor}
use Rattle.ways.specs.Match.{accepts, step}

-- r tells whether the piece takes the character c
abbrev pub Accepts : Piece → ℕ → Bool → Type 0
Accepts t c r = (x : g.Piece) → IsPiece t x → r ≡ accepts x c

abbrev pub place_of : Option Cursor → Option ℕ
place_of None = None
place_of (Some c) = Some c.place

-- r is behind the character at p, if the piece takes it
abbrev pub Steps : Piece → List ℕ → ℕ → Option Cursor → Type 0
Steps t l p r = (x : g.Piece) → IsPiece t x → place_of r ≡ step l x p
