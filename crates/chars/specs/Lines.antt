-- The lines of a sheet. Assumes nothing.
use Rattle.std.specs.Prelude.{◌≡◌, ℕ, suc, ◌<◌, cond, List, [], ◌∷◌, ◌++◌, length, Some, None, Option, ◌==◌, ◌≢◌, slice_index}
use Rattle.std.specs.Borrow.{Bor}
use Rattle.std.specs.List.{flat_map}

-- b put in front of the first part
abbrev pub onto : ℕ → List (List ℕ) → List (List ℕ)
onto b [] = (b ∷ []) ∷ []
onto b (part ∷ parts) = (b ∷ part) ∷ parts

-- the lines: cut after each byte 10
abbrev pub parts : List ℕ → List (List ℕ)
parts [] = []
parts (b ∷ bs) = cond (b == 10) ((b ∷ []) ∷ parts bs) (onto b (parts bs))

-- a line: not empty, with no byte 10 but at its end
pub record Line (line : List ℕ) : Type 0 where
  pub filled : 0 < length line
  pub whole : (k : ℕ) → suc k < length line → slice_index line k ≢ 10

-- a line that another may follow ends in byte 10
abbrev pub Ended : List ℕ → Type 0
Ended line = (k : ℕ) → suc k ≡ length line → slice_index line k ≡ 10

-- lines, each but the last of which ends in byte 10
abbrev pub Sheet : List (List ℕ) → Type 0
Sheet [] = Unit {0}
Sheet (line ∷ []) = Line line
Sheet (line ∷ (next ∷ more)) = Line line × Ended line × Sheet (next ∷ more)

-- What the calls give, one after the other: the lines joined are the bytes, and they are a sheet's lines.
pub record Cut (bytes : List ℕ) : Type 0 where
  pub joins : flat_map (λ line. line) (parts bytes) ≡ bytes
  pub sheet : Sheet (parts bytes)

-- the first line, and the bytes that the next call is given
pub record First (bytes line rest : List ℕ) : Type 0 where
  pub joins : line ++ rest ≡ bytes
  pub is : Line line
  pub ended : 0 < length rest → Ended line
  pub next : parts bytes ≡ line ∷ parts rest

abbrev pub NextLine : List ℕ → Option (Bor (List ℕ) × Bor (List ℕ)) → Type 0
NextLine bytes None = (length bytes ≡ 0) × Cut bytes
NextLine bytes (Some r) = First bytes r.0.now r.1.now × Cut bytes
