-- The legal word expressions, by how they are written. Assumes nothing.
use Rattle.std.specs.Prelude.{◌≡◌, ℕ, ◌≤◌, true, List, [], ◌∷◌, ◌++◌}
use Rattle.std.proofs.Math.Utf8.{scalar, encode}
use Rattle.chars.specs.Sets.{digit}
use Rattle.chars.specs.Marks.{mark, bare}

-- one character of a word: ASCII and bare, or longer, or a mark after a backslash; or a backslash and a digit
pub data Sign : Type 0 where
  plain : ℕ → Sign
  wide : ℕ → Sign
  marked : ℕ → Sign
  numbered : ℕ → Sign

-- a word has one character or more, and an expression one word or more
pub record Word : Type 0 where
  pub head : Sign
  pub tail : List Sign

pub record Expression : Type 0 where
  pub first : Word
  pub others : List Word

abbrev pub signs : Word → List Sign
signs w = w.head ∷ w.tail

abbrev pub words : Expression → List Word
words x = x.first ∷ x.others

-- How each is written, before the bytes that follow.
abbrev pub sign : Sign → List ℕ → List ℕ
sign (plain c) bs = c ∷ bs
sign (wide c) bs = encode c ++ bs
sign (marked c) bs = 92 ∷ c ∷ bs
sign (numbered d) bs = 92 ∷ d ∷ bs

abbrev pub signed : List Sign → List ℕ → List ℕ
signed [] bs = bs
signed (s ∷ ss) bs = sign s (signed ss bs)

-- words, each behind a bar
abbrev pub barred : List Word → List ℕ
barred [] = []
barred (w ∷ ws) = 124 ∷ signed (signs w) (barred ws)

abbrev pub written : Expression → List ℕ
written x = signed (signs x.first) (barred x.others)

-- What may be written.
abbrev pub GoodSign : Sign → Type 0
GoodSign (plain c) = bare c ≡ true
GoodSign (wide c) = (128 ≤ c) × (scalar c ≡ true)
GoodSign (marked c) = mark c ≡ true
GoodSign (numbered d) = digit d ≡ true

abbrev pub GoodSigns : List Sign → Type 0
GoodSigns [] = Unit {0}
GoodSigns (s ∷ ss) = GoodSign s × GoodSigns ss

abbrev pub GoodWords : List Word → Type 0
GoodWords [] = Unit {0}
GoodWords (w ∷ ws) = GoodSigns (signs w) × GoodWords ws

-- e is written so
pub record Spells (x : Expression) (e : List ℕ) : Type 0 where
  pub good : GoodWords (words x)
  pub is : written x ≡ e

abbrev pub Legal : List ℕ → Type 0
Legal e = (x : Expression) × Spells x e
