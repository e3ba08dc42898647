-- What a terminal shows of a text, by columns. Assumes nothing.
use Rattle.std.specs.Prelude.{◌≡◌, ℕ, ◌+◌, ◌<◌, ◌≤◌, Bool, cond, ◌||◌, List, take, replicate, ◌==◌, nat_lt}
use Rattle.std.proofs.Math.Utf8.{encode}
use Rattle.std.specs.List.{flat_map}
use Rattle.std.specs.Str.{IsCharBoundary, chars}
use Rattle.chars.specs.Sets.{between}

-- what is shown for a character: of a control character its picture, U+2400 and on, and of those above 127 U+FFFD
abbrev pub picture : ℕ → ℕ
picture c = cond (nat_lt c 32) (9216 + c) (cond (c == 127) 9249 (cond (between 128 159 c) 65533 c))

-- marks over the character before, and characters without a width
abbrev pub narrow : ℕ → Bool
narrow c = between 768 879 c || (between 8203 8207 c || between 65024 65039 c)

-- the scripts of East Asia
abbrev pub east_asian : ℕ → Bool
east_asian c = between 4352 4447 c || (between 11904 42191 c || (between 44032 55203 c || between 63744 64255 c))

-- as wide as those, and emoji
abbrev pub full : ℕ → Bool
full c = between 65072 65135 c || (between 65281 65376 c || (between 65504 65510 c || (between 127744 129791 c || between 131072 262141 c)))

abbrev pub columns : ℕ → ℕ
columns c = cond (narrow c) 0 (cond (east_asian c || full c) 2 1)

-- the text as it is shown
abbrev pub shown_as : List ℕ → List ℕ
shown_as bytes = flat_map (λ c. encode (picture c)) (chars bytes)

-- as many spaces as the text takes columns
abbrev pub spaces_of : List ℕ → List ℕ
spaces_of bytes = flat_map (λ c. replicate (columns c) 32) (chars bytes)

-- front is the text up to its last edge that is not past the place
pub record Front (text : List ℕ) (place : ℕ) (front : List ℕ) : Type 0 where
  pub cut : ℕ
  pub within : cut ≤ place
  pub edge : IsCharBoundary text cut
  pub last : (j : ℕ) → cut < j → j ≤ place → IsCharBoundary text j → ⊥
  pub is : front ≡ take cut text
