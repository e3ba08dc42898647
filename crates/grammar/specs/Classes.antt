-- Which characters a class takes. Assumes nothing.
use Rattle.std.specs.Prelude.{◌≡◌, ℕ, ◌≤◌, Bool, true, false, cond, not, ◌||◌, List, [], ◌∷◌, drop, ◌==◌, slice_index, Some, None, Option}
use Rattle.std.proofs.Common.{ControlFlow, Continue, Break}
use Rattle.chars.specs.Sets.{between, in_set}
use Rattle.grammar.specs.declared.bytes.Escaped.{Escaped}
use Rattle.grammar.specs.declared.bytes.Escaped.TheVariants as e
use Rattle.grammar.specs.declared.class.Spot.{Spot}
use Rattle.grammar.specs.declared.class.Spot.TheVariants.{Fresh, Escape, Last, Range, RangeEscape}
use Rattle.grammar.specs.Bytes.{escaped_of}
use Rattle.grammar.specs.Grammar.{Member, one, range, every, class, value, caret, member, members, piece, GoodMember, GoodMembers}

-- a member takes c: it is that character, or c lies in the range, both ends in, or in the set
abbrev pub in_member : Member → ℕ → Bool
in_member (one a) c = c == value a
in_member (range a z) c = between (value a) (value z) c
in_member (every s) c = in_set s c

abbrev pub in_members : List Member → ℕ → Bool
in_members [] c = false
in_members (m ∷ ms) c = in_member m c || in_members ms c

-- a class takes what a member takes, and its complement every other character
abbrev pub in_class : Bool → List Member → ℕ → Bool
in_class false ms c = in_members ms c
in_class true ms c = not (in_members ms c)

-- The test as it is computed, a byte at a time: it is known whether c is taken, or the class goes on.
abbrev pub Passed : Type 0
Passed = ControlFlow Bool Spot

abbrev pub unless : Bool → Spot → Passed
unless taken s = cond taken (Break true) (Continue s)

abbrev pub single : ℕ → ℕ → Passed
single c b = unless (c == b) (Last b)

abbrev pub fresh : ℕ → ℕ → Passed
fresh c b = cond (b == 92) (Continue Escape) (cond (b == 93) (Break false) (single c b))

abbrev pub after_escape : ℕ → ℕ → Option Escaped → Passed
after_escape c b (Some e.Mark) = single c b
after_escape c b (Some e.Digit) = single c b
after_escape c b (Some (e.Set s)) = unless (in_set s c) Fresh
after_escape c b None = single c b

abbrev pub up_to : ℕ → ℕ → ℕ → Passed
up_to c low b = unless (between low b c) Fresh

abbrev pub passes : ℕ → Spot → ℕ → Passed
passes c Fresh b = fresh c b
passes c Escape b = after_escape c b (escaped_of b)
passes c (Last low) b = cond (b == 45) (Continue (Range low)) (fresh c b)
passes c (Range low) b = cond (b == 92) (Continue (RangeEscape low)) (up_to c low b)
passes c (RangeEscape low) b = up_to c low b

abbrev pub listed_on : Passed → (Spot → Bool) → Bool
listed_on (Break taken) f = taken
listed_on (Continue s) f = f s

-- a member among the bytes takes c
abbrev pub listed : ℕ → Spot → List ℕ → Bool
listed c s [] = false
listed c s (b ∷ bs) = listed_on (passes c s b) (λ after. listed c after bs)

abbrev pub taken : Bool → List ℕ → ℕ → Bool
taken false bs c = listed c Fresh bs
taken true bs c = not (listed c Fresh bs)

-- of the bytes after `[`: whether they begin with `^`, and where the members begin
abbrev pub complemented : List ℕ → Bool
complemented bs = slice_index bs 0 == 94

abbrev pub members_of : List ℕ → List ℕ
members_of bs = cond (complemented bs) (drop 1 bs) bs

-- the class whose bytes after `[` are bs takes c
abbrev pub class_takes : List ℕ → ℕ → Bool
class_takes bs c = taken (complemented bs) (members_of bs) c

-- A class that is held stands for a class of the grammar: its members are written so, before any bytes that follow.
pub record Holds (negated : Bool) (bytes : List ℕ) (not : Bool) (m : Member) (ms : List Member) : Type 0 where
  pub same : negated ≡ not
  pub first : GoodMember m
  pub others : GoodMembers ms
  pub rest : List ℕ
  pub written : bytes ≡ member m (members ms (93 ∷ rest))

-- whatever class is written at i, it is held
abbrev pub OpensAt : List ℕ → ℕ → Bool → List ℕ → Type 0
OpensAt e i negated bytes =
    (not : Bool) (m : Member) (ms : List Member) (rest : List ℕ) → GoodMember m → GoodMembers ms
    → piece (class not m ms) rest ≡ drop i e → Holds negated bytes not m ms

-- whatever class is written behind its `[`, it is held, and after is what follows it
abbrev pub Opens : List ℕ → Bool → List ℕ → List ℕ → Type 0
Opens behind negated bytes after =
    (not : Bool) (m : Member) (ms : List Member) (rest : List ℕ) → GoodMember m → GoodMembers ms
    → caret not (member m (members ms (93 ∷ rest))) ≡ behind → Holds negated bytes not m ms × (after ≡ rest)

-- r tells whether the class that is held takes c
abbrev pub Tests : Bool → List ℕ → ℕ → Bool → Type 0
Tests negated bytes c r = (not : Bool) (m : Member) (ms : List Member) → Holds negated bytes not m ms → r ≡ in_class not (m ∷ ms) c

-- r tells it of every character above 127
abbrev pub TestsWide : Bool → List ℕ → Bool → Type 0
TestsWide negated bytes r = (c : ℕ) → 128 ≤ c → Tests negated bytes c r
