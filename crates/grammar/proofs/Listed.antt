-- The test of a class, read from its bytes, is that of its members. Assumes nothing.
use Rattle.std.proofs.Common.{◌≡◌, ℕ, ◌<◌, ◌≤◌, Bool, true, false, ◌||◌, eqb, leb, List, [], ◌∷◌, ◌++◌, drop, sym, refl, ap, ◌∙◌, arith}
use lib.Utf8.{encode}
use mathlib.Core.Bool as bool
use Rattle.std.proofs.lemmas.Bool.{cond-false, eqb-true, ne_eqb, le-leb, and_from}
use Rattle.std.proofs.lemmas.Bool.Decides.{nat_tests}
use Rattle.std.proofs.lemmas.Str.{encode_ascii}
use Rattle.chars.specs.Sets.{between}
use Rattle.chars.specs.declared.sets.Set.{Set}
use Rattle.chars.specs.declared.sets.Set.TheVariants.{Digits, Words, Spaces}
use Rattle.grammar.specs.declared.class.Spot.{Spot}
use Rattle.grammar.specs.declared.class.Spot.TheVariants.{Fresh, Last, Range}
use Rattle.chars.specs.Sets.{in_set}
use Rattle.grammar.specs.Grammar as g
use Rattle.grammar.specs.Grammar.{Sign, plain, escaped, Member, one, range, every, letter, sign, value, member, members, caret, GoodSign, GoodMember, GoodMembers}
use Rattle.grammar.specs.Classes.{in_member, in_members, in_class, unless, after_escape, listed_on, listed, taken, complemented, members_of, Opens, Tests}
use Rattle.grammar.proofs.Told.{is_mark, is_set, unlike, mark_low, unmarked_low}
use Rattle.grammar.specs.Items.{shut_of}
use Rattle.grammar.proofs.Steps.{member_on, members_shut, class_shut}
use Rattle.grammar.proofs.Parsed.{NoDash, no_dash, head_no_caret}

unless_listed : (t : Bool) (s : Spot) (f : Spot → Bool) → listed_on (unless t s) f ≡ (t || f s)
unless_listed true s f = refl
unless_listed false s f = refl

-- what holds of the first end of a range holds of the range
absorbed : (p q r : Bool) → (p ≡ true → q ≡ true) → (p || (q || r)) ≡ (q || r)
absorbed true q r h = sym (ap (λ t. t || r) (h refl))
absorbed false q r h = refl

module _ (c : ℕ) where
  sign_listed : (a : Sign) (bs : List ℕ) → GoodSign a → listed c Fresh (sign a bs) ≡ (eqb c (value a) || listed c (Last (value a)) bs)
  sign_listed (plain x) bs h =
      ap (λ p. listed_on p (λ s. listed c s bs)) (cond-false (eqb x 92) _ _ (unlike 92 x refl h) ∙ cond-false (eqb x 93) _ _ (unlike 93 x refl h))
      ∙ unless_listed (eqb c x) (Last x) (λ s. listed c s bs)
  sign_listed (escaped x) bs h =
      ap (λ q. listed_on (after_escape c x q) (λ s. listed c s bs)) (is_mark x h) ∙ unless_listed (eqb c x) (Last x) (λ s. listed c s bs)

  last_listed : (low : ℕ) (bs : List ℕ) → NoDash bs → listed c (Last low) bs ≡ listed c Fresh bs
  last_listed low [] h = refl
  last_listed low (b ∷ bs) h = ap (λ p. listed_on p (λ s. listed c s bs)) (cond-false (eqb b 45) _ _ h)

  upper_listed : (low : ℕ) (z : Sign) (bs : List ℕ) → GoodSign z → listed c (Range low) (sign z bs) ≡ (between low (value z) c || listed c Fresh bs)
  upper_listed low (plain x) bs h =
      ap (λ p. listed_on p (λ s. listed c s bs)) (cond-false (eqb x 92) _ _ (unlike 92 x refl h)) ∙ unless_listed (between low x c) Fresh (λ s. listed c s bs)
  upper_listed low (escaped x) bs h = unless_listed (between low x c) Fresh (λ s. listed c s bs)

  low_end : (low high : ℕ) → low < high → eqb c low ≡ true → between low high c ≡ true
  low_end low high lt h = let e = eqb-true c low h in and_from (leb low c) (leb c high) (le-leb low c (omega arith)) (le-leb c high (omega arith))

  member_listed : (m : Member) (bs : List ℕ) → GoodMember m → NoDash bs → listed c Fresh (member m bs) ≡ (in_member m c || listed c Fresh bs)
  member_listed (one a) bs h n = sign_listed a bs h ∙ ap (λ t. eqb c (value a) || t) (last_listed (value a) bs n)
  member_listed (range a z) bs h n =
      sign_listed a (45 ∷ sign z bs) h.0 ∙ ap (λ t. eqb c (value a) || t) (upper_listed (value a) z bs h.1)
      ∙ absorbed (eqb c (value a)) (between (value a) (value z) c) (listed c Fresh bs) (low_end (value a) (value z) h.2)
  member_listed (every s) bs h n =
      ap (λ q. listed_on (after_escape c (letter s) q) (λ t. listed c t bs)) (is_set s) ∙ unless_listed (in_set s c) Fresh (λ t. listed c t bs)

  members_listed : (ms : List Member) (bs : List ℕ) → GoodMembers ms → listed c Fresh (members ms (93 ∷ bs)) ≡ in_members ms c
  members_listed [] bs h = refl
  members_listed (m ∷ ms) bs h =
      member_listed m (members ms (93 ∷ bs)) h.0 (no_dash ms bs h.1) ∙ ap (λ t. in_member m c || t) (members_listed ms bs h.1)

  turned : (negated : Bool) (bytes : List ℕ) (ms : List Member) → listed c Fresh bytes ≡ in_members ms c → taken negated bytes c ≡ in_class negated ms c
  turned true bytes ms h = ap bool.not h
  turned false bytes ms h = h

  -- the answer is turned round where the two differ
  pub differs : (negated lists : Bool) (bytes : List ℕ) → lists ≡ listed c Fresh bytes → bool.not (bool.beq lists negated) ≡ taken negated bytes c
  differs true true bytes h = ap bool.not h
  differs true false bytes h = ap bool.not h
  differs false true bytes h = h
  differs false false bytes h = h

  pub tests : (negated : Bool) (bytes : List ℕ) → Tests negated bytes c (taken negated bytes c)
  tests negated bytes turn m ms h =
      turned negated bytes (m ∷ ms) (ap (listed c Fresh) h.written ∙ members_listed (m ∷ ms) h.rest (h.first, h.others))
      ∙ ap (λ t. in_class t (m ∷ ms) c) h.same

  -- ===== no member takes a character above 127
  module _ (high : 128 ≤ c) where
    sign_low : (a : Sign) → GoodSign a → value a < 128
    sign_low (plain x) h = unmarked_low x h
    sign_low (escaped x) h = omega (arith, mark_low x h)

    set_none : (s : Set) → in_set s c ≡ false
    set_none Digits = grind (arith, nat_tests)
    set_none Words = grind (arith, nat_tests)
    set_none Spaces = grind (arith, nat_tests)

    above : (low up : ℕ) → up < c → between low up c ≡ false
    above low up lt = grind (arith, nat_tests)

    member_none : (m : Member) → GoodMember m → in_member m c ≡ false
    member_none (one a) h = ne_eqb c (value a) (λ e. omega (arith, sign_low a h))
    member_none (range a z) h = above (value a) (value z) (omega (arith, sign_low z h.1))
    member_none (every s) h = set_none s

    members_none : (ms : List Member) → GoodMembers ms → in_members ms c ≡ false
    members_none [] h = refl
    members_none (m ∷ ms) h = (λ j. member_none m h.0 j || in_members ms c) ∙ members_none ms h.1

    class_none : (negated : Bool) (ms : List Member) → in_members ms c ≡ false → negated ≡ in_class negated ms c
    class_none true ms h = sym (ap bool.not h)
    class_none false ms h = sym h

    pub tests_wide : (negated : Bool) (bytes : List ℕ) → Tests negated bytes c negated
    tests_wide negated bytes turn m ms h =
        class_none negated (m ∷ ms) (members_none (m ∷ ms) (h.first, h.others)) ∙ ap (λ t. in_class t (m ∷ ms) c) h.same

-- ===== the class that is held is the one that is written
-- what stands behind `[`: whether it is a caret, and where the members begin
abbrev pub Seen : List ℕ → Bool → List ℕ → Type 0
Seen text negated members =
    (negated ≡ complemented text) × (members ≡ members_of text) × (shut_of false members ≡ shut_of false text)

pub seen : (text members : List ℕ) → text ≡ encode 94 ++ members → Seen text true members
seen text members h =
    let e = h ∙ ap (λ l. l ++ members) (encode_ascii 94 (omega arith)) in
    (sym (ap complemented e), sym (ap members_of e), sym (ap (shut_of false) e))

plain_head : (text : List ℕ) → ((rest : List ℕ) → text ≡ encode 94 ++ rest → ⊥) → complemented text ≡ false
plain_head [] h = refl
plain_head (b ∷ bs) h =
    let one = ap (λ l. l ++ bs) (sym (encode_ascii 94 (omega arith))) in ne_eqb b 94 (λ e. h bs (ap (λ (n : ℕ). n ∷ bs) e ∙ one))

pub unseen : (text : List ℕ) → ((rest : List ℕ) → text ≡ encode 94 ++ rest → ⊥) → Seen text false text
unseen text h = let e = plain_head text h in (sym e, sym (cond-false (complemented text) (drop 1 text) text e), refl)

pub turn_read : (turn : Bool) (m : Member) (bs : List ℕ) → GoodMember m → complemented (caret turn (member m bs)) ≡ turn
turn_read true m bs h = refl
turn_read false m bs h = head_no_caret m bs h

pub members_from : (turn : Bool) (m : Member) (bs : List ℕ) → GoodMember m → members_of (caret turn (member m bs)) ≡ member m bs
members_from true m bs h = refl
members_from false m bs h = cond-false (complemented (member m bs)) (drop 1 (member m bs)) (member m bs) (head_no_caret m bs h)

pub opens : (behind members : List ℕ) (negated : Bool) (after : List ℕ) → Seen behind negated members
    → after ≡ shut_of false members → Opens behind negated members after
opens behind members negated after s end turn m ms rest a b w =
    let cs = g.members ms (93 ∷ rest) in (
      record {
        same = s.0 ∙ ap complemented (sym w) ∙ turn_read turn m cs a;
        first = a;
        others = b;
        rest = rest;
        written = s.1 ∙ ap members_of (sym w) ∙ members_from turn m cs a;
      },
      end ∙ s.2 ∙ ap (shut_of false) (sym w) ∙ class_shut turn (member m cs) ∙ member_on m cs a ∙ members_shut ms rest b,
    )
