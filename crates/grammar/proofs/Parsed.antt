-- The items that are read are those that are written. Assumes nothing.
use Rattle.std.proofs.Common.{◌≡◌, ℕ, zero, suc, ◌+◌, ◌-◌, ◌*◌, ◌/◌, ◌<◌, ◌≤◌, Bool, true, false, eqb, ltb, List, [], ◌∷◌, ◌++◌, length, get_or, drop, sym, refl, ap, ◌∙◌, ⊎_elim, le_of_suc-le-suc, arith}
use lib.Utf8.{scalar, encode, next}
use Rattle.std.proofs.lemmas.Bool.{cond_both, cond-false, cases_lt}
use Rattle.chars.specs.Marks.{mark, unmarked}
use Rattle.chars.proofs.Wide.{two, three, four}
use Rattle.grammar.specs.Grammar.{Sign, plain, escaped, Member, one, range, every, Piece, char, wide, marked, any, set, class, Times, once, maybe, many, some, Item, takes, start, end, never, opens, closes, bar}
use Rattle.grammar.specs.Grammar.{letter, sign, member, members, caret, piece, times, item, written, GoodSign, GoodMember, GoodMembers, GoodPiece, Good}
use Rattle.grammar.specs.Items.{shut_of}
use Rattle.grammar.specs.Parse.{sign_at, ranged, escaped_member, member_at, members_at, class_at, timed, wide_at, escaped_part, part, part_at, parts, items, OneWay}
use Rattle.grammar.proofs.Told.{is_bare, is_mark, is_digit, is_set, unlike}
use Rattle.grammar.proofs.Steps.{Leads, leads2, leads3, leads4, unrepeated, member_on, members_shut, Bytes, item_bytes, tail}

sign_read : (a : Sign) (bs : List ℕ) → GoodSign a → sign_at (sign a bs) ≡ (a, bs)
sign_read (plain c) bs h = cond-false (eqb c 92) _ _ (unlike 92 c refl h)
sign_read (escaped c) bs h = refl

-- what follows a member is no dash and not empty
abbrev pub NoDash : List ℕ → Type 0
NoDash bs = eqb (get_or bs 0 0) 45 ≡ false

head_no_dash : (m : Member) (bs : List ℕ) → GoodMember m → NoDash (member m bs)
head_no_dash (one (plain c)) bs h = unlike 45 c refl h
head_no_dash (one (escaped c)) bs h = refl
head_no_dash (range (plain c) z) bs h = unlike 45 c refl h.0
head_no_dash (range (escaped c) z) bs h = refl
head_no_dash (every s) bs h = refl

pub no_dash : (ms : List Member) (bs : List ℕ) → GoodMembers ms → NoDash (members ms (93 ∷ bs))
no_dash [] bs h = refl
no_dash (m ∷ ms) bs h = head_no_dash m (members ms (93 ∷ bs)) h.0

one_read : (a : Sign) (bs : List ℕ) → NoDash bs → ranged a bs ≡ (one a, bs)
one_read a bs h = cond-false (eqb (get_or bs 0 0) 45) _ _ h

range_read : (a z : Sign) (bs : List ℕ) → GoodSign z → ranged a (45 ∷ sign z bs) ≡ (range a z, bs)
range_read a z bs h = ap (λ p. (range a p.0, p.1)) (sign_read z bs h)

bare_member : (c : ℕ) (bs : List ℕ) → unmarked c ≡ true → member_at (c ∷ bs) ≡ ranged (plain c) bs
bare_member c bs h = cond-false (eqb c 92) _ _ (unlike 92 c refl h)

mark_member : (c : ℕ) (bs : List ℕ) → mark c ≡ true → member_at (92 ∷ c ∷ bs) ≡ ranged (escaped c) bs
mark_member c bs h = ap (λ q. escaped_member q c bs) (is_mark c h)

member_read : (m : Member) (bs : List ℕ) → GoodMember m → NoDash bs → member_at (member m bs) ≡ (m, bs)
member_read (one (plain c)) bs h n = bare_member c bs h ∙ one_read (plain c) bs n
member_read (one (escaped c)) bs h n = mark_member c bs h ∙ one_read (escaped c) bs n
member_read (range (plain c) z) bs h n = bare_member c (45 ∷ sign z bs) h.0 ∙ range_read (plain c) z bs h.1
member_read (range (escaped c) z) bs h n = mark_member c (45 ∷ sign z bs) h.0 ∙ range_read (escaped c) z bs h.1
member_read (every s) bs h n = ap (λ q. escaped_member q (letter s) bs) (is_set s)

head_no_shut : (m : Member) (bs : List ℕ) → GoodMember m → eqb (get_or (member m bs) 0 0) 93 ≡ false
head_no_shut (one (plain c)) bs h = unlike 93 c refl h
head_no_shut (one (escaped c)) bs h = refl
head_no_shut (range (plain c) z) bs h = unlike 93 c refl h.0
head_no_shut (range (escaped c) z) bs h = refl
head_no_shut (every s) bs h = refl

members_read : (n : ℕ) (ms : List Member) (bs : List ℕ) → GoodMembers ms → length ms < n → members_at n (members ms (93 ∷ bs)) ≡ ms
members_read zero ms bs h l = absurd (omega arith)
members_read (suc n) [] bs h l = refl
members_read (suc n) (m ∷ ms) bs h l =
    cond-false (eqb (get_or (members (m ∷ ms) (93 ∷ bs)) 0 0) 93) _ _ (head_no_shut m (members ms (93 ∷ bs)) h.0)
    ∙ ap (λ p. p.0 ∷ members_at n p.1) (member_read m (members ms (93 ∷ bs)) h.0 (no_dash ms bs h.1))
    ∙ ap (λ xs. m ∷ xs) (members_read n ms bs h.1 (le_of_suc-le-suc l))

-- lengths
sign_long : (a : Sign) (bs : List ℕ) → length bs < length (sign a bs)
sign_long (plain c) bs = omega arith
sign_long (escaped c) bs = omega arith

member_long : (m : Member) (bs : List ℕ) → length bs < length (member m bs)
member_long (one a) bs = sign_long a bs
member_long (range a z) bs = omega (arith, sign_long a (45 ∷ sign z bs), sign_long z bs)
member_long (every s) bs = omega arith

members_long : (ms : List Member) (bs : List ℕ) → length ms + length bs ≤ length (members ms bs)
members_long [] bs = omega arith
members_long (m ∷ ms) bs = omega (arith, member_long m (members ms bs), members_long ms bs)

caret_long : (t : Bool) (bs : List ℕ) → length bs ≤ length (caret t bs)
caret_long true bs = omega arith
caret_long false bs = omega arith

times_long : (u : Times) (bs : List ℕ) → length bs ≤ length (times u bs)
times_long once bs = omega arith
times_long maybe bs = omega arith
times_long many bs = omega arith
times_long some bs = omega arith

wide_long : (c : ℕ) (bs : List ℕ) → length bs < length (encode c ++ bs)
unfolding encode
wide_long c bs = cond_both (ltb c 128) _ _ (λ cs. length bs < length (cs ++ bs)) (λ _. omega arith) (λ _. cond_both (ltb c 2048) _ _ (λ cs. length bs < length (cs ++ bs)) (λ _. omega arith) (λ _. cond_both (ltb c 65536) _ _ (λ cs. length bs < length (cs ++ bs)) (λ _. omega arith) (λ _. omega arith)))

piece_long : (p : Piece) (bs : List ℕ) → length bs < length (piece p bs)
piece_long (char c) bs = omega arith
piece_long (wide c) bs = wide_long c bs
piece_long (marked c) bs = omega arith
piece_long any bs = omega arith
piece_long (set s) bs = omega arith
piece_long (class not m ms) bs = omega (arith, caret_long not (member m (members ms (93 ∷ bs))), member_long m (members ms (93 ∷ bs)), members_long ms (93 ∷ bs))

item_long : (x : Item) (bs : List ℕ) → length bs < length (item x bs)
item_long (takes p u) bs = omega (arith, piece_long p (times u bs), times_long u bs)
item_long start bs = omega arith
item_long end bs = omega arith
item_long (never n) bs = omega arith
item_long opens bs = omega arith
item_long closes bs = omega arith
item_long bar bs = omega arith

class_read : (not : Bool) (m : Member) (ms : List Member) (bs : List ℕ) → GoodMember m → GoodMembers ms → class_at not (member m (members ms (93 ∷ bs))) ≡ class not m ms
class_read not m ms bs a b =
    let cs = members ms (93 ∷ bs) in
    ap (λ p. class not p.0 (members_at (length (member m cs)) p.1)) (member_read m cs a (no_dash ms bs b))
    ∙ ap (class not m) (members_read (length (member m cs)) ms bs b (omega (arith, member_long m cs, members_long ms (93 ∷ bs))))

pub head_no_caret : (m : Member) (bs : List ℕ) → GoodMember m → eqb (get_or (member m bs) 0 0) 94 ≡ false
head_no_caret (one (plain c)) bs h = unlike 94 c refl h
head_no_caret (one (escaped c)) bs h = refl
head_no_caret (range (plain c) z) bs h = unlike 94 c refl h.0
head_no_caret (range (escaped c) z) bs h = refl
head_no_caret (every s) bs h = refl

bracket_read : (not : Bool) (m : Member) (ms : List Member) (bs : List ℕ) → GoodMember m → GoodMembers ms → part_at (piece (class not m ms) bs) ≡ timed (class not m ms) bs
bracket_read true m ms bs a b =
    let cs = member m (members ms (93 ∷ bs)) in
    (λ j. timed (class_read true m ms bs a b j) (shut_of false cs)) ∙ ap (timed (class true m ms)) (member_on m _ a ∙ members_shut ms bs b)
bracket_read false m ms bs a b =
    let cs = member m (members ms (93 ∷ bs)) in
    cond-false (eqb (get_or cs 0 0) 94) _ _ (head_no_caret m (members ms (93 ∷ bs)) a)
    ∙ (λ j. timed (class_read false m ms bs a b j) (shut_of false cs)) ∙ ap (timed (class false m ms)) (member_on m _ a ∙ members_shut ms bs b)

by64 : (c : ℕ) → c / 4096 ≡ c / 64 / 64
by64 c = omega arith

by4096 : (c : ℕ) → c / 262144 ≡ c / 64 / 64 / 64
by4096 c = let h = by64 c in let e : c / 262144 ≡ c / 4096 / 64 = omega arith in e ∙ ap (λ (n : ℕ). n / 64) h

digits3 : (c q : ℕ) → c / 64 ≡ q → (224 + q / 64 - 224) * 4096 + (next q - 128) * 64 + (next c - 128) ≡ c
digits3 c q e = omega arith

digits4 : (c q r : ℕ) → c / 64 ≡ q → q / 64 ≡ r → (240 + r / 64 - 240) * 262144 + (next r - 128) * 4096 + (next q - 128) * 64 + (next c - 128) ≡ c
digits4 c q r e f = omega arith

led_read : (x n : ℕ) (bs : List ℕ) → Leads x n → part_at (x ∷ bs) ≡ timed (wide (wide_at n x bs)) (drop (n + 1) bs)
led_read x n bs l = ap (λ q. part q x bs) l.1 ∙ ap (λ (m : ℕ). timed (wide (wide_at m x bs)) (drop (m + 1) bs)) l.2

pub wide_read : (c : ℕ) → 128 ≤ c → scalar c ≡ true → (bs : List ℕ) → part_at (encode c ++ bs) ≡ timed (wide c) bs
wide_read c a s bs = ⊎_elim
    (λ b.
    let x : ℕ = 192 + c / 64 in
    let y : ℕ = next c in
    let is : (x - 192) * 64 + (y - 128) ≡ c = omega arith in
    ap (λ cs. part_at (cs ++ bs)) (two c a b) ∙ led_read x 0 (y ∷ bs) (leads2 c a s bs b) ∙ ap (λ (n : ℕ). timed (wide n) bs) is)
    (λ b. ⊎_elim
    (λ d.
    let x : ℕ = 224 + c / 4096 in
    let y : ℕ = next (c / 64) in
    let z : ℕ = next c in
    let is : (x - 224) * 4096 + (y - 128) * 64 + (z - 128) ≡ c = ap (λ (n : ℕ). (224 + n - 224) * 4096 + (y - 128) * 64 + (z - 128)) (by64 c) ∙ digits3 c (c / 64) refl in
    ap (λ cs. part_at (cs ++ bs)) (three c b d) ∙ led_read x 1 (y ∷ z ∷ bs) (leads3 c a s bs b d) ∙ ap (λ (n : ℕ). timed (wide n) bs) is)
    (λ d.
    let x : ℕ = 240 + c / 262144 in
    let y : ℕ = next (c / 4096) in
    let z : ℕ = next (c / 64) in
    let w : ℕ = next c in
    let is : (x - 240) * 262144 + (y - 128) * 4096 + (z - 128) * 64 + (w - 128) ≡ c =
    ap (λ (n : ℕ). (240 + n - 240) * 262144 + (y - 128) * 4096 + (z - 128) * 64 + (w - 128)) (by4096 c) ∙ ap (λ (n : ℕ). (240 + c / 64 / 64 / 64 - 240) * 262144 + (next n - 128) * 4096 + (z - 128) * 64 + (w - 128)) (by64 c) ∙ digits4 c (c / 64) (c / 64 / 64) refl refl in
    ap (λ cs. part_at (cs ++ bs)) (four c d) ∙ led_read x 2 (y ∷ z ∷ w ∷ bs) (leads4 c a s bs d) ∙ ap (λ (n : ℕ). timed (wide n) bs) is)
    (cases_lt c 65536))
    (cases_lt c 2048)

module _ (g d : ℕ) where
  pub timed_read : (p : Piece) (u : Times) (is : List Item) → Good g d is → timed p (times u (written is)) ≡ (takes p u, written is)
  timed_read p once is h =
      let n = unrepeated g d is h in
      cond-false (eqb (get_or (written is) 0 0) 63) _ _ n.0 ∙ cond-false (eqb (get_or (written is) 0 0) 42) _ _ n.1 ∙ cond-false (eqb (get_or (written is) 0 0) 43) _ _ n.2
  timed_read p maybe is h = refl
  timed_read p many is h = refl
  timed_read p some is h = refl

  part_piece : (p : Piece) (u : Times) (is : List Item) → GoodPiece p → Good g d is → part_at (piece p (times u (written is))) ≡ (takes p u, written is)
  part_piece (char c) u is a h = ap (λ q. part q c (times u (written is))) (is_bare c a) ∙ timed_read (char c) u is h
  part_piece (wide c) u is a h = wide_read c a.0 a.1 (times u (written is)) ∙ timed_read (wide c) u is h
  part_piece (marked c) u is a h = ap (λ q. escaped_part q c (times u (written is))) (is_mark c a) ∙ timed_read (marked c) u is h
  part_piece any u is a h = timed_read any u is h
  part_piece (set s) u is a h = ap (λ q. escaped_part q (letter s) (times u (written is))) (is_set s) ∙ timed_read (set s) u is h
  part_piece (class not m ms) u is a h = bracket_read not m ms (times u (written is)) a.0 a.1 ∙ timed_read (class not m ms) u is h

  pub part_read : (x : Item) (is : List Item) → Good g d (x ∷ is) → part_at (item x (written is)) ≡ (x, written is)
  part_read (takes p u) is h = part_piece p u is h.0 h.1
  part_read start is h = refl
  part_read end is h = refl
  part_read (never n) is h = ap (λ q. escaped_part q n (written is)) (is_digit n h.0)
  part_read opens is h = refl
  part_read closes is h = refl
  part_read bar is h = refl

parts_on : (n : ℕ) (bs : List ℕ) → Bytes bs → parts (suc n) bs ≡ (part_at bs).0 ∷ parts n (part_at bs).1
parts_on n [] h = absurd h
parts_on n (b ∷ bs) h = refl

parts_more : (x : Item) (is : List Item) (o d n : ℕ) → Good o d (x ∷ is) → length (item x (written is)) ≤ n → ((p q m : ℕ) → Good p q is → length (written is) ≤ m → parts m (written is) ≡ is) → parts n (item x (written is)) ≡ x ∷ is
parts_more x is o d zero h l rest = absurd (omega (arith, item_long x (written is)))
parts_more x is o d (suc n) h l rest =
    let t = tail o d x is h in
    parts_on n (item x (written is)) (item_bytes x (written is))
    ∙ ap (λ p. p.0 ∷ parts n p.1) (part_read o d x is h)
    ∙ ap (λ xs. x ∷ xs) (rest t.0 t.1 n t.2 (omega (arith, item_long x (written is))))

parts_read : (is : List Item) (o d n : ℕ) → Good o d is → length (written is) ≤ n → parts n (written is) ≡ is
parts_read [] o d n h l = refl
parts_read (x ∷ is) o d n h l = parts_more x is o d n h l (parts_read is)

pub one_way : (e : List ℕ) → OneWay e
one_way e o d is h w = sym (ap items (sym w) ∙ parts_read is o d (length (written is)) h (omega arith))
