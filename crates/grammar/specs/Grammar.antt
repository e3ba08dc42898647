-- The legal expressions, by how they are written. Assumes nothing.
use Rattle.std.specs.Prelude.{◌≡◌, ℕ, ◌+◌, ◌-◌, ◌<◌, ◌≤◌, Bool, true, false, List, [], ◌∷◌, ◌++◌}
use Rattle.std.proofs.Math.Utf8.{scalar, encode}
use Rattle.chars.specs.Sets.{digit}
use Rattle.chars.specs.Marks.{mark, unmarked, bare}
use Rattle.chars.specs.declared.sets.Set.{Set}
use Rattle.chars.specs.declared.sets.Set.TheVariants.{Digits, Words, Spaces}

-- a character of a class, bare or with its backslash
pub data Sign : Type 0 where
  plain : ℕ → Sign
  escaped : ℕ → Sign

-- a character, a range, both ends in, or a set
pub data Member : Type 0 where
  one : Sign → Member
  range : Sign → Sign → Member
  every : Set → Member

-- what takes one character: an ASCII character that stands bare, one above 127, a mark behind its backslash, `.`, a set, or a
-- class, true for the complement, with its first member and the others
pub data Piece : Type 0 where
  char : ℕ → Piece
  wide : ℕ → Piece
  marked : ℕ → Piece
  any : Piece
  set : Set → Piece
  class : Bool → Member → List Member → Piece

-- how often it is taken: `?`, `*` and `+` stand behind it
pub data Times : Type 0 where
  once : Times
  maybe : Times
  many : Times
  some : Times

-- a piece; `^`, `$`, a backslash and a digit, `(`, `)`, and `|` between alternatives
pub data Item : Type 0 where
  takes : Piece → Times → Item
  start : Item
  end : Item
  never : ℕ → Item
  opens : Item
  closes : Item
  bar : Item

-- How each is written, before the bytes that follow.
abbrev pub letter : Set → ℕ
letter Digits = 100
letter Words = 119
letter Spaces = 115

abbrev pub sign : Sign → List ℕ → List ℕ
sign (plain c) bs = c ∷ bs
sign (escaped c) bs = 92 ∷ c ∷ bs

abbrev pub value : Sign → ℕ
value (plain c) = c
value (escaped c) = c

abbrev pub member : Member → List ℕ → List ℕ
member (one a) bs = sign a bs
member (range a z) bs = sign a (45 ∷ sign z bs)
member (every s) bs = 92 ∷ letter s ∷ bs

abbrev pub members : List Member → List ℕ → List ℕ
members [] bs = bs
members (m ∷ ms) bs = member m (members ms bs)

abbrev pub caret : Bool → List ℕ → List ℕ
caret true bs = 94 ∷ bs
caret false bs = bs

abbrev pub piece : Piece → List ℕ → List ℕ
piece (char c) bs = c ∷ bs
piece (wide c) bs = encode c ++ bs
piece (marked c) bs = 92 ∷ c ∷ bs
piece any bs = 46 ∷ bs
piece (set s) bs = 92 ∷ letter s ∷ bs
piece (class not m ms) bs = 91 ∷ caret not (member m (members ms (93 ∷ bs)))

abbrev pub times : Times → List ℕ → List ℕ
times once bs = bs
times maybe bs = 63 ∷ bs
times many bs = 42 ∷ bs
times some bs = 43 ∷ bs

abbrev pub item : Item → List ℕ → List ℕ
item (takes p t) bs = piece p (times t bs)
item start bs = 94 ∷ bs
item end bs = 36 ∷ bs
item (never d) bs = 92 ∷ d ∷ bs
item opens bs = 40 ∷ bs
item closes bs = 41 ∷ bs
item bar bs = 124 ∷ bs

abbrev pub written : List Item → List ℕ
written [] = []
written (i ∷ is) = item i (written is)

-- What may be written.
abbrev pub GoodSign : Sign → Type 0
GoodSign (plain c) = unmarked c ≡ true
GoodSign (escaped c) = mark c ≡ true

abbrev pub GoodMember : Member → Type 0
GoodMember (one a) = GoodSign a
GoodMember (range a z) = GoodSign a × GoodSign z × (value a < value z)
GoodMember (every s) = Unit {0}

abbrev pub GoodMembers : List Member → Type 0
GoodMembers [] = Unit {0}
GoodMembers (m ∷ ms) = GoodMember m × GoodMembers ms

abbrev pub GoodPiece : Piece → Type 0
GoodPiece (char c) = bare c ≡ true
GoodPiece (wide c) = (128 ≤ c) × (scalar c ≡ true)
GoodPiece (marked c) = mark c ≡ true
GoodPiece any = Unit {0}
GoodPiece (set s) = Unit {0}
GoodPiece (class not m ms) = GoodMember m × GoodMembers ms

-- the items, where g pairs were opened before them, of which d are open: at most 15 pairs in all, each within one alternative
abbrev pub Good : ℕ → ℕ → List Item → Type 0
Good g d [] = d ≡ 0
Good g d (takes p t ∷ is) = GoodPiece p × Good g d is
Good g d (start ∷ is) = Good g d is
Good g d (end ∷ is) = Good g d is
Good g d (never n ∷ is) = (digit n ≡ true) × Good g d is
Good g d (opens ∷ is) = (g < 15) × Good (g + 1) (d + 1) is
Good g d (closes ∷ is) = (0 < d) × Good g (d - 1) is
Good g d (bar ∷ is) = (d ≡ 0) × Good g d is

abbrev pub LegalFrom : ℕ → ℕ → List ℕ → Type 0
LegalFrom g d bs = (is : List Item) × Good g d is × (written is ≡ bs)

abbrev pub Legal : List ℕ → Type 0
Legal e = LegalFrom 0 0 e
