-- Text and its edges, as tests that compute. Assumes nothing.
use Rattle.std.specs.Prelude.{ℕ, ◌<◌, ◌≤◌, Bool, true, false, ◌&&◌, ◌||◌, List, [], ◌∷◌, length, Some, None, Option, ◌==◌, nat_le, nat_lt, slice_index}
use Rattle.std.proofs.Math.Utf8.{scalars, encodes}
use Rattle.std.specs.Str.{chars, IsCharBoundary}

abbrev pub alike : List ℕ → List ℕ → Bool
alike [] [] = true
alike [] (y ∷ ys) = false
alike (x ∷ xs) [] = false
alike (x ∷ xs) (y ∷ ys) = x == y && alike xs ys

-- the bytes are UTF-8: their characters, written again, are these bytes
abbrev pub text : List ℕ → Bool
text l = scalars (chars l) && alike (encodes (chars l)) l

-- a character of the text begins at p, or the text ends there
abbrev pub edge : List ℕ → ℕ → Bool
edge l p = nat_le p (length l) && (nat_le (length l) p || (nat_lt (slice_index l p) 128 || nat_le 192 (slice_index l p)))

-- the first edge above p, and none from the end on
abbrev pub NextEdge : List ℕ → ℕ → Option ℕ → Type 0
NextEdge l p None = length l ≤ p
NextEdge l p (Some q) = (p < q) × IsCharBoundary l q × ((j : ℕ) → p < j → j < q → IsCharBoundary l j → ⊥)
