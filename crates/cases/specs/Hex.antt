-- Bytes in lower-case hexadecimal. Assumes nothing.
use Rattle.std.specs.Prelude.{◌≡◌, ℕ, ◌+◌, ◌-◌, ◌*◌, ◌/◌, ◌%◌, ◌<◌, cond, List, [], ◌∷◌, length, Some, None, Option, ◌≢◌, nat_lt, slice_index}
use Rattle.std.specs.List.{AllByRecursion, flat_map}
use Rattle.cases.specs.declared.fault.Fault.{Fault}
use Rattle.cases.specs.declared.fault.Fault.TheVariants.{Missing, Extra, NoDigits, NoDigit, TooLarge, NoBytes, OddDigits, NoHexadecimal, Memory}

-- the value of a digit, 0 to 9 or a to f
abbrev pub digit_of : ℕ → Option ℕ
digit_of b = cond (nat_lt b 48) None (cond (nat_lt b 58) (Some (b - 48)) (cond (nat_lt b 97) None (cond (nat_lt b 103) (Some (b - 87)) None)))

abbrev pub byte_of : Option ℕ → Option ℕ → Option ℕ
byte_of (Some high) (Some low) = Some (high * 16 + low)
byte_of (Some high) None = None
byte_of None (Some low) = None
byte_of None None = None

-- How bytes are written.
abbrev pub digit : ℕ → ℕ
digit v = cond (nat_lt v 10) (48 + v) (87 + v)

abbrev pub digits : ℕ → List ℕ
digits b = digit (b / 16) ∷ digit (b % 16) ∷ []

abbrev pub written : List ℕ → List ℕ
written bs = flat_map digits bs

-- no bytes are written as one hyphen
abbrev pub spelled : List ℕ → List ℕ
spelled [] = 45 ∷ []
spelled (b ∷ bs) = written (b ∷ bs)

-- no bytes are written so
abbrev pub Illegible : List ℕ → Type 0
Illegible field = (bs : List ℕ) → AllByRecursion (λ (b : ℕ). b < 256) bs → spelled bs ≢ field

-- what a refusal says of the field
abbrev pub Faulty : Fault → List ℕ → Type 0
Faulty NoBytes field = (length field ≡ 0) × Illegible field
Faulty OddDigits field = (length field % 2 ≡ 1) × Illegible field
Faulty NoHexadecimal field = ((k : ℕ) × (k < length field) × (digit_of (slice_index field k) ≡ None)) × Illegible field
Faulty Memory field = Unit {0}
Faulty Missing field = ⊥
Faulty Extra field = ⊥
Faulty NoDigits field = ⊥
Faulty NoDigit field = ⊥
Faulty TooLarge field = ⊥
