-- A text written again, character by character. Assumes nothing.
use Rattle.std.proofs.Common.{◌≡◌, ℕ, List, [], ◌∷◌, ◌++◌, map, refl, ap}
use Rattle.std.proofs.Math.Utf8.{encode, encodes}
use Rattle.std.specs.List.{flat_map}

pub encodes-map : (f : ℕ → ℕ) (cs : List ℕ) → encodes (map f cs) ≡ flat_map (λ c. encode (f c)) cs
encodes-map f [] = refl
encodes-map f (c ∷ cs) = ap (λ rest. encode (f c) ++ rest) (encodes-map f cs)
