-- Which characters the sets of an expression take. Assumes nothing.
use Rattle.std.specs.Prelude.{ℕ, Bool, cond, ◌&&◌, ◌||◌, Some, None, Option, ◌==◌, nat_le}
use Rattle.chars.specs.declared.sets.Sort.{Sort}
use Rattle.chars.specs.declared.sets.Sort.TheVariants.{Digit, Letter, Space}
use Rattle.chars.specs.declared.sets.Set.{Set}
use Rattle.chars.specs.declared.sets.Set.TheVariants.{Digits, Words, Spaces}

abbrev pub between : ℕ → ℕ → ℕ → Bool
between low high c = nat_le low c && nat_le c high

-- \d
abbrev pub digit : ℕ → Bool
digit c = between 48 57 c

abbrev pub letter : ℕ → Bool
letter c = between 65 90 c || between 97 122 c

-- \w
abbrev pub word : ℕ → Bool
word c = letter c || (digit c || c == 95)

-- \s
abbrev pub space : ℕ → Bool
space c = between 9 13 c || c == 32

abbrev pub in_set : Set → ℕ → Bool
in_set Digits c = digit c
in_set Words c = word c
in_set Spaces c = space c

-- the entry of the table: the sets overlap only in that every digit is a word character
abbrev pub sort_of : ℕ → Option Sort
sort_of c = cond (digit c) (Some Digit) (cond (word c) (Some Letter) (cond (space c) (Some Space) None))
