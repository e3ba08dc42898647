-- Decimal numbers. Assumes nothing.
use Rattle.std.specs.Prelude.{◌≡◌, ℕ, ◌+◌, ◌-◌, ◌*◌, ◌<◌, ◌≤◌, cond, ◌||◌, List, [], ◌∷◌, length, take, Ok, Err, Result, nat_le, nat_lt, slice_index}
use Rattle.std.specs.List.{AllByRecursion}
use Rattle.cases.specs.declared.fault.Fault.{Fault}
use Rattle.cases.specs.declared.fault.Fault.TheVariants.{Missing, Extra, NoDigits, NoDigit, TooLarge, NoBytes, OddDigits, NoHexadecimal, Memory}

abbrev pub most : ℕ
most = 4294967295

abbrev pub grown : ℕ → ℕ → Result ℕ Fault
grown n d = cond (nat_lt d 48 || nat_lt 57 d) (Err NoDigit) (cond (nat_le (n * 10 + (d - 48)) most) (Ok (n * 10 + (d - 48))) (Err TooLarge))

abbrev pub go_on : Result ℕ Fault → (ℕ → Result ℕ Fault) → Result ℕ Fault
go_on (Ok n) f = f n
go_on (Err x) f = Err x

-- the number n with the digits ds behind it
abbrev pub number_from : ℕ → List ℕ → Result ℕ Fault
number_from n [] = Ok n
number_from n (d ∷ ds) = go_on (grown n d) (λ m. number_from m ds)

abbrev pub number_of : List ℕ → Result ℕ Fault
number_of [] = Err NoDigits
number_of (d ∷ ds) = number_from 0 (d ∷ ds)

-- In words: the digits are 0 to 9, and each stands for ten times what its right neighbour does.
abbrev pub Digit : ℕ → Type 0
Digit d = (48 ≤ d) × (d ≤ 57)

abbrev pub value_from : ℕ → List ℕ → ℕ
value_from n [] = n
value_from n (d ∷ ds) = value_from (n * 10 + (d - 48)) ds

pub record Writes (n : ℕ) (field : List ℕ) : Type 0 where
  pub filled : 0 < length field
  pub digits : AllByRecursion Digit field
  pub value : n ≡ value_from 0 field
  pub fits : n ≤ most

-- Refused is what has no digit, what has a character that is none, and what is too large, whichever comes first from the left.
-- n is the number before these digits.
abbrev pub BlamedFrom : ℕ → Fault → List ℕ → Type 0
BlamedFrom n NoDigits ds = length ds ≡ 0
BlamedFrom n NoDigit ds = (k : ℕ) × (k < length ds) × AllByRecursion Digit (take k ds) × (value_from n (take k ds) ≤ most) × (Digit (slice_index ds k) → ⊥)
BlamedFrom n TooLarge ds = (k : ℕ) × (k ≤ length ds) × AllByRecursion Digit (take k ds) × (most < value_from n (take k ds))
BlamedFrom n Missing ds = ⊥
BlamedFrom n Extra ds = ⊥
BlamedFrom n NoBytes ds = ⊥
BlamedFrom n OddDigits ds = ⊥
BlamedFrom n NoHexadecimal ds = ⊥
BlamedFrom n Memory ds = ⊥

abbrev pub Blamed : Fault → List ℕ → Type 0
Blamed x field = BlamedFrom 0 x field
