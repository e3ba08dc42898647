-- A record and its fields. Assumes nothing.
use Rattle.std.specs.Prelude.{◌≡◌, ℕ, ◌<◌, ◌⊎◌, List, [], ◌∷◌, length, Some, None, Ok, Err, Option, Result, ◌==◌, ◌≢◌, slice_index}
use Rattle.std.specs.Borrow.{Bor}
use Rattle.std.specs.List.{AllByRecursion, join_with_byte, slice_split}
use Rattle.cases.specs.declared.fault.Fault.{Fault}
use Rattle.cases.specs.declared.fault.Fault.TheVariants.{Missing}

-- the fields of a record: what stands between its spaces
abbrev pub fields_of : List ℕ → List (List ℕ)
fields_of bytes = slice_split (λ b. b == 32) bytes

-- the fields that are left, where the rest of the record is known
abbrev pub left : Option (Bor (List ℕ)) → List (List ℕ)
left None = []
left (Some rest) = fields_of rest.now

-- fields written with one space between
abbrev pub spaced : List (List ℕ) → List ℕ
spaced fields = join_with_byte 32 fields

abbrev pub Whole : List ℕ → Type 0
Whole field = (k : ℕ) → k < length field → slice_index field k ≢ 32

-- what the fields of a record are: with a space between they are the record, and no field has a space
pub record Parted (bytes : List ℕ) : Type 0 where
  pub joins : spaced (fields_of bytes) ≡ bytes
  pub whole : AllByRecursion Whole (fields_of bytes)

-- The first field left is taken, and x is what P has it stand for. A refusal is Q's, of that field, or says that none is left.
abbrev pub Takes : {X : Type 0} → (X → List ℕ → Type 0) → (Fault → List ℕ → Type 0) → List (List ℕ) → List (List ℕ) → Result X Fault → Type 0
Takes P Q before after (Ok x) = (field : List ℕ) × (before ≡ field ∷ after) × P x field
Takes P Q before after (Err x) = ((field : List ℕ) × (before ≡ field ∷ after) × Q x field) ⊎ ((x ≡ Missing) × (before ≡ []) × (after ≡ []))
