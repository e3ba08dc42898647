-- The first item, read from the first character of what is left. Assumes nothing.
use Rattle.std.proofs.Common.{◌≡◌, ℕ, ◌<◌, ◌≤◌, true, false, eqb, Bor, List, [], ◌∷◌, ◌++◌, length, get_or, drop, Some, None, Option, refl, sym, ap, ◌∙◌, subst, ⊎_elim, length-append, arith}
use lib.Utf8.{scalar, encode}
use Rattle.std.specs.Option.{option_map}
use Rattle.std.proofs.lemmas.Bool.{true≢false, cond-false, ne_eqb, eqb-false, cases_lt}
use Rattle.std.proofs.lemmas.Bool.Decides.{nat_tests}
use Rattle.std.proofs.lemmas.Option.{none-some}
use Rattle.std.proofs.lemmas.Str.{encode_ascii, encode_same, length-encode, len_utf8_bounds, char_from_byte}
use Rattle.chars.specs.Sets.{digit}
use Rattle.chars.specs.Marks.{bare}
use Rattle.chars.proofs.Wide.{begun}
use Rattle.grammar.specs.declared.bytes.Escaped.{Escaped}
use Rattle.grammar.specs.declared.bytes.Escaped.TheVariants as q
use Rattle.grammar.specs.declared.class.Class.{Class}
use Rattle.grammar.specs.declared.items.Piece.{Piece}
use Rattle.grammar.specs.declared.items.Piece.TheVariants as p
use Rattle.grammar.specs.declared.items.Times.{Times}
use Rattle.grammar.specs.declared.items.Item.{Item}
use Rattle.grammar.specs.declared.items.Item.TheVariants as i
use Rattle.grammar.specs.declared.items.Items.{Items}
use Rattle.chars.specs.declared.sets.Set.{Set}
use Rattle.chars.specs.declared.sets.Set.TheVariants.{Digits, Words, Spaces}
use Rattle.grammar.specs.Grammar as g
use Rattle.grammar.specs.Grammar.{char, wide, marked, any, set, class, once, maybe, many, some, takes, start, end, never, opens, closes, bar}
use Rattle.grammar.specs.Grammar.{letter, times, item, written, Good}
use Rattle.grammar.specs.Bytes.{set_of, escaped_of}
use Rattle.grammar.specs.Classes.{Opens}
use Rattle.grammar.specs.Items.{IsPiece, IsItem, times_of, Written, Reads}
use Rattle.grammar.specs.Parse.{timed, escaped_part, part_at, Read, Repeats}
use Rattle.grammar.proofs.Told.{ToldAfter, told_set, is_digit, is_set, letter_set, unlike_bare, mark_low}
use Rattle.grammar.proofs.Steps.{high_unlike, Bytes, item_bytes, tail}
use Rattle.grammar.proofs.Parsed.{timed_read, part_read}

-- whatever item is written there, it was read
abbrev Takes : List ℕ → Item × Items → Type 0
Takes bytes r =
    (o d : ℕ) (y : g.Item) (is : List g.Item) → Good o d (y ∷ is) → item y (written is) ≡ bytes → Read r (y, written is)

-- whatever the piece, this repeat stands behind it, and left follows
abbrev Timed : List ℕ → g.Times → List ℕ → Type 0
Timed bytes u left = (p : g.Piece) → timed p bytes ≡ (takes p u, left)

-- ===== characters that are bytes
pub bare_low : (c : ℕ) → bare c ≡ true → c < 128
bare_low c h =
    let wide : 128 ≤ c → bare c ≡ false = λ high. grind (arith, nat_tests) in
    ⊎_elim (λ low. low) (λ high. absurd (true≢false (sym h ∙ wide high))) (cases_lt c 128)

pub letter_low : (s : Set) → letter s < 128
letter_low Digits = omega arith
letter_low Words = omega arith
letter_low Spaces = omega arith

pub digit_low : (c : ℕ) → digit c ≡ true → c < 128
digit_low c h = grind (arith, nat_tests)

filled : (bs : List ℕ) → 0 < get_or bs 0 0 → 0 < length bs
filled [] h = absurd (omega arith)
filled (b ∷ bs) h = omega arith

-- the first byte, and the others
heads : (bs cs : List ℕ) → bs ≡ cs → get_or bs 0 0 ≡ get_or cs 0 0
heads bs cs e = ap (λ l. get_or l 0 0) e

tails : (bs cs : List ℕ) → bs ≡ cs → drop 1 bs ≡ drop 1 cs
tails bs cs e = ap (drop 1) e

module _ (bytes left : List ℕ) (c : ℕ) (e : bytes ≡ encode c ++ left) where
  ascii : (m : ℕ) → m < 128 → c ≡ m → bytes ≡ m ∷ left
  ascii m low is = e ∙ ap (λ (n : ℕ). encode n ++ left) is ∙ ap (λ l. l ++ left) (encode_ascii m low)

  unlike_first : (m : ℕ) → 0 < m → m < 128 → (c ≡ m → ⊥) → get_or bytes 0 0 ≡ m → ⊥
  unlike_first m low high ne is = ne (char_from_byte bytes left c e (omega arith) (filled bytes (omega arith)) ∙ is)

  not_empty : length bytes ≡ 0 → ⊥
  not_empty z = omega (arith, ap length e, length-append (encode c) left, length-encode c, (len_utf8_bounds c).0)

-- ===== a repeat
module _ (bytes left : List ℕ) (c : ℕ) (e : bytes ≡ encode c ++ left) where
  pub maybe_read : c ≡ 63 → Timed bytes maybe left
  maybe_read is p = ap (timed p) (ascii bytes left c e 63 (omega arith) is)

  pub many_read : c ≡ 42 → Timed bytes many left
  many_read is p = ap (timed p) (ascii bytes left c e 42 (omega arith) is)

  pub some_read : c ≡ 43 → Timed bytes some left
  some_read is p = ap (timed p) (ascii bytes left c e 43 (omega arith) is)

  other_byte : (m : ℕ) → 0 < m → m < 128 → (c ≡ m → ⊥) → eqb (get_or bytes 0 0) m ≡ false
  other_byte m low high ne = ne_eqb _ m (unlike_first bytes left c e m low high ne)

  pub once_read : (c ≡ 63 → ⊥) → (c ≡ 42 → ⊥) → (c ≡ 43 → ⊥) → Timed bytes once bytes
  once_read x y z p =
      cond-false (eqb (get_or bytes 0 0) 63) _ _ (other_byte 63 (omega arith) (omega arith) x)
      ∙ cond-false (eqb (get_or bytes 0 0) 42) _ _ (other_byte 42 (omega arith) (omega arith) y)
      ∙ cond-false (eqb (get_or bytes 0 0) 43) _ _ (other_byte 43 (omega arith) (omega arith) z)

pub none_read : (bytes : List ℕ) → length bytes ≡ 0 → Timed bytes once bytes
none_read [] h p = refl
none_read (b ∷ bs) h p = absurd (omega arith)

module _ (x : Piece) (bytes left : List ℕ) (u : g.Times) (r : Times × Bor (List ℕ)) (rest : Bor (List ℕ)) where
  abbrev took : Item × Items
  took = (i.Take x r.0, record { rest = r.1 })

  pub repeats : Timed bytes u left → r ≡ (times_of u, rest) → rest.now ≡ left → Repeats x bytes took
  repeats h e f p is = subst (Read took) (sym (h p)) ((x, ap (λ q. i.Take x q.0) e, is), ap (λ q. q.1.now) e ∙ f)

-- a piece that is read, with the repeat behind it
module _ (z : Piece) (left : List ℕ) (r : Item × Items) (again : Repeats z left r) (y : g.Piece) (a : IsPiece z y) where
  piece_read : (o d : ℕ) (u : g.Times) (is : List g.Item) → Good o d is → times u (written is) ≡ left
      → Read r (takes y u, written is)
  piece_read o d u is h e = subst (Read r) (ap (timed y) (sym e) ∙ timed_read o d y u is h) (again y a)

-- ===== the first item
part_takes : (bytes : List ℕ) (r : Item × Items) (p : g.Item × List ℕ) → part_at bytes ≡ p → Read r p → Takes bytes r
part_takes bytes r p h a o d y is good w = subst (Read r) (sym h ∙ ap part_at (sym w) ∙ part_read o d y is good) a

takes_reads : (bytes : List ℕ) (r : Item × Items) → (length bytes ≡ 0 → ⊥) → Takes bytes r → Reads bytes (Some r)
takes_reads bytes r full h [] w = full (ap length (sym w.written))
takes_reads bytes r full h (y ∷ is) w =
    let a = h w.opened w.depth y is w.good w.written in
    let t = tail w.opened w.depth y is w.good in
    (a.0, record { opened = t.0; depth = t.1; good = t.2; written = sym a.1 })

pub same_reads : (bytes : List ℕ) (r s : Item × Items) → r ≡ s → Reads bytes (Some s) → Reads bytes (Some r)
same_reads bytes r s e h = subst (λ q. Reads bytes (Some q)) (sym e) h

none_written : (bs : List ℕ) → Bytes bs → length bs ≡ 0 → ⊥
none_written [] h e = h
none_written (b ∷ bs) h e = omega arith

pub none_reads : (bytes : List ℕ) → length bytes ≡ 0 → Reads bytes None
none_reads bytes e [] w = tt
none_reads bytes e (y ∷ is) w = none_written (item y (written is)) (item_bytes y (written is)) (ap length w.written ∙ e)

-- an item begins with a mark only where the mark is its own
module _ (m : ℕ) (low : m < 128) (not_bare : bare m ≡ false) where
  no_char : (c : ℕ) (bs cs : List ℕ) → bare c ≡ true → c ∷ bs ≡ m ∷ cs → ⊥
  no_char c bs cs h e = eqb-false c m (unlike_bare m c not_bare h) (heads (c ∷ bs) (m ∷ cs) e)

  no_wide : (c : ℕ) (bs cs : List ℕ) → 128 ≤ c → scalar c ≡ true → encode c ++ bs ≡ m ∷ cs → ⊥
  no_wide c bs cs a s e =
      let high = high_unlike m low (encode c ++ bs) (begun (λ _. Unit {0}) c a s bs tt) in
      eqb-false (get_or (encode c ++ bs) 0 0) m high (heads (encode c ++ bs) (m ∷ cs) e)

-- ===== behind a bracket
module _
    (left : List ℕ) (k : Class) (after : List ℕ) (r : Item × Items)
    (held : Opens left k.negated k.members.now after) (again : Repeats (p.Class k) after r) where
  class_takes : Takes (91 ∷ left) r
  class_takes o d (takes (char c) u) is h e = absurd (no_char 91 (omega arith) refl c _ left h.0 e)
  class_takes o d (takes (wide c) u) is h e = absurd (no_wide 91 (omega arith) refl c _ left h.0.0 h.0.1 e)
  class_takes o d (takes (marked c) u) is h e = absurd (omega (arith, heads _ _ e))
  class_takes o d (takes any u) is h e = absurd (omega (arith, heads _ _ e))
  class_takes o d (takes (set s) u) is h e = absurd (omega (arith, heads _ _ e))
  class_takes o d (takes (class not m ms) u) is h e =
      let is_held = held not m ms (times u (written is)) h.0.0 h.0.1 (tails _ _ e) in
      piece_read (p.Class k) after r again (class not m ms) (k, refl, is_held.0) o d u is h.1 (sym is_held.1)
  class_takes o d start is h e = absurd (omega (arith, heads _ _ e))
  class_takes o d end is h e = absurd (omega (arith, heads _ _ e))
  class_takes o d (never n) is h e = absurd (omega (arith, heads _ _ e))
  class_takes o d opens is h e = absurd (omega (arith, heads _ _ e))
  class_takes o d closes is h e = absurd (omega (arith, heads _ _ e))
  class_takes o d bar is h e = absurd (omega (arith, heads _ _ e))

-- ===== at a character that stands for itself
-- one that begins no other item
abbrev pub Other : ℕ → Type 0
Other c = (c ≡ 124 → ⊥) × (c ≡ 40 → ⊥) × (c ≡ 41 → ⊥) × (c ≡ 94 → ⊥) × (c ≡ 36 → ⊥) × (c ≡ 46 → ⊥) × (c ≡ 91 → ⊥) × (c ≡ 92 → ⊥)

-- behind a backslash: one that names no set, and is no digit
abbrev Mark : ℕ → Type 0
Mark c = (c ≡ 100 → ⊥) × (c ≡ 119 → ⊥) × (c ≡ 115 → ⊥) × (digit c ≡ true → ⊥)

module _ (left : List ℕ) (c : ℕ) (r : Item × Items) (again : Repeats (p.Char c) left r) where
  same_first : (m : ℕ) (bs : List ℕ) → m < 128 → m ∷ bs ≡ encode c ++ left → (m ≡ c) × (bs ≡ left)
  same_first m bs low e = encode_same m c bs left (ap (λ l. l ++ bs) (encode_ascii m low) ∙ e)

  no_first : (m : ℕ) (bs : List ℕ) → m < 128 → m ∷ bs ≡ encode c ++ left → (c ≡ m → ⊥) → ⊥
  no_first m bs low e n = n (sym (same_first m bs low e).0)

  char_read : (y : g.Piece) (x : ℕ) → IsPiece (p.Char x) y → (o d : ℕ) (u : g.Times) (is : List g.Item) → Good o d is
      → (x ≡ c) × (times u (written is) ≡ left) → Read r (takes y u, written is)
  char_read y x a o d u is h e =
      piece_read (p.Char c) left r again y (subst (λ (z : ℕ). IsPiece (p.Char z) y) e.0 a) o d u is h e.1

  other_takes : Other c → Takes (encode c ++ left) r
  other_takes n o d (takes (char x) u) is h e = char_read (char x) x refl o d u is h.1 (same_first x _ (bare_low x h.0) e)
  other_takes n o d (takes (wide x) u) is h e = char_read (wide x) x refl o d u is h.1 (encode_same x c _ left e)
  other_takes n o d (takes (marked x) u) is h e = absurd (no_first 92 _ (omega arith) e n.7)
  other_takes n o d (takes any u) is h e = absurd (no_first 46 _ (omega arith) e n.5)
  other_takes n o d (takes (set s) u) is h e = absurd (no_first 92 _ (omega arith) e n.7)
  other_takes n o d (takes (class not m ms) u) is h e = absurd (no_first 91 _ (omega arith) e n.6)
  other_takes n o d start is h e = absurd (no_first 94 _ (omega arith) e n.3)
  other_takes n o d end is h e = absurd (no_first 36 _ (omega arith) e n.4)
  other_takes n o d (never x) is h e = absurd (no_first 92 _ (omega arith) e n.7)
  other_takes n o d opens is h e = absurd (no_first 40 _ (omega arith) e n.1)
  other_takes n o d closes is h e = absurd (no_first 41 _ (omega arith) e n.2)
  other_takes n o d bar is h e = absurd (no_first 124 _ (omega arith) e n.0)

  no_letter : Mark c → (s : Set) (bs : List ℕ) → letter s ∷ bs ≡ encode c ++ left → ⊥
  no_letter n Digits bs e = no_first 100 bs (omega arith) e n.0
  no_letter n Words bs e = no_first 119 bs (omega arith) e n.1
  no_letter n Spaces bs e = no_first 115 bs (omega arith) e n.2

  no_digit : Mark c → (x : ℕ) (bs : List ℕ) → digit x ≡ true → x ∷ bs ≡ encode c ++ left → ⊥
  no_digit n x bs h e = n.3 (subst (λ (v : ℕ). digit v ≡ true) (same_first x bs (digit_low x h) e).0 h)

  mark_takes : Mark c → Takes (92 ∷ encode c ++ left) r
  mark_takes n o d (takes (char x) u) is h e = absurd (no_char 92 (omega arith) refl x _ _ h.0 e)
  mark_takes n o d (takes (wide x) u) is h e = absurd (no_wide 92 (omega arith) refl x _ _ h.0.0 h.0.1 e)
  mark_takes n o d (takes (marked x) u) is h e =
      char_read (marked x) x refl o d u is h.1 (same_first x _ (omega (arith, mark_low x h.0)) (tails _ _ e))
  mark_takes n o d (takes any u) is h e = absurd (omega (arith, heads _ _ e))
  mark_takes n o d (takes (set s) u) is h e = absurd (no_letter n s _ (tails _ _ e))
  mark_takes n o d (takes (class not m ms) u) is h e = absurd (omega (arith, heads _ _ e))
  mark_takes n o d start is h e = absurd (omega (arith, heads _ _ e))
  mark_takes n o d end is h e = absurd (omega (arith, heads _ _ e))
  mark_takes n o d (never x) is h e = absurd (no_digit n x _ h.0 (tails _ _ e))
  mark_takes n o d opens is h e = absurd (omega (arith, heads _ _ e))
  mark_takes n o d closes is h e = absurd (omega (arith, heads _ _ e))
  mark_takes n o d bar is h e = absurd (omega (arith, heads _ _ e))

-- ===== what is read behind a backslash
module _ (bytes left : List ℕ) (c : ℕ) (e : bytes ≡ encode c ++ left) where
  escape_reads : (r : Item × Items) → Takes (92 ∷ bytes) r → Reads (92 ∷ bytes) (Some r)
  escape_reads r h = takes_reads (92 ∷ bytes) r (λ z. omega arith) h

  part_escaped : (m : ℕ) → m < 128 → c ≡ m → (k : Escaped) → escaped_of m ≡ Some k → part_at (92 ∷ bytes) ≡ escaped_part (Some k) m left
  part_escaped m low is k f = ap (λ l. part_at (92 ∷ l)) (ascii bytes left c e m low is) ∙ ap (λ t. escaped_part t m left) f

  set_reads : (s : Set) → c ≡ letter s → (r : Item × Items) → Repeats (p.Set s) left r → Reads (92 ∷ bytes) (Some r)
  set_reads s is r again =
      let part = part_escaped (letter s) (letter_low s) is (q.Set s) (is_set s) in
      escape_reads r (part_takes (92 ∷ bytes) r (timed (set s) left) part (again (set s) refl))

  pub digit_reads : digit c ≡ true → (rest : Bor (List ℕ)) → rest.now ≡ left
      → Reads (92 ∷ bytes) (Some (i.Never, record { rest = rest }))
  digit_reads h rest f =
      let r : Item × Items = (i.Never, record { rest = rest }) in
      let part = part_escaped c (digit_low c h) refl q.Digit (is_digit c h) in
      escape_reads r (part_takes (92 ∷ bytes) r (never c, left) part (refl, f))

  mark_reads : Mark c → (r : Item × Items) → Repeats (p.Char c) left r → Reads (92 ∷ bytes) (Some r)
  mark_reads n r again = escape_reads r (subst (λ l. Takes (92 ∷ l) r) (sym e) (mark_takes left c r again n))

  pub letter_reads : (s : Set) → Some s ≡ set_of c → (r : Item × Items) → Repeats (p.Set s) left r → Reads (92 ∷ bytes) (Some r)
  letter_reads s is r again = set_reads s (sym (subst (λ o. ToldAfter (option_map q.Set o) c) (sym is) (told_set c))) r again

  no_set : None ≡ set_of c → (s : Set) → c ≡ letter s → ⊥
  no_set none s is = none-some s (none ∙ ap set_of is ∙ letter_set s)

  pub sign_reads : None ≡ set_of c → false ≡ digit c → (r : Item × Items) → Repeats (p.Char c) left r → Reads (92 ∷ bytes) (Some r)
  sign_reads none no_digit r again = mark_reads (no_set none Digits, no_set none Words, no_set none Spaces, λ is. true≢false (sym is ∙ sym no_digit)) r again

-- a backslash alone begins no item
no_lone : (y : g.Item) (is : List g.Item) → Written (92 ∷ []) (y ∷ is) → ⊥
no_lone y is w =
    let e = ap part_at (sym w.written) ∙ part_read w.opened w.depth y is w.good in
    omega (arith, heads _ _ (subst (λ (x : g.Item). item x (written is) ≡ 92 ∷ []) (sym (ap (λ v. v.0) e)) w.written))

pub lone_reads : (bytes : List ℕ) → length bytes ≡ 0 → Reads (92 ∷ bytes) None
lone_reads bytes h [] w = tt
lone_reads [] h (y ∷ is) w = no_lone y is w
lone_reads (b ∷ bs) h (y ∷ is) w = absurd (omega arith)

-- ===== what is read at a character
module _ (bytes left : List ℕ) (c : ℕ) (e : bytes ≡ encode c ++ left) where
  -- an item of one character
  pub item_reads : (m : ℕ) → m < 128 → (y : g.Item) → part_at (m ∷ left) ≡ (y, left) → c ≡ m
      → (x : Item) → IsItem x y → (rest : Bor (List ℕ)) → rest.now ≡ left → Reads bytes (Some (x, record { rest = rest }))
  item_reads m low y h is x a rest f =
      let r : Item × Items = (x, record { rest = rest }) in
      let part = ap part_at (ascii bytes left c e m low is) ∙ h in
      takes_reads bytes r (not_empty bytes left c e) (part_takes bytes r (y, left) part (a, f))

  module _ (r : Item × Items) where
    char_reads : Takes bytes r → Reads bytes (Some r)
    char_reads h = takes_reads bytes r (not_empty bytes left c e) h

    pub any_reads : c ≡ 46 → Repeats p.Any left r → Reads bytes (Some r)
    any_reads is again =
        let part = ap part_at (ascii bytes left c e 46 (omega arith) is) in
        char_reads (part_takes bytes r (timed any left) part (again any refl))

    pub class_reads : c ≡ 91 → (k : Class) (after : List ℕ) → Opens left k.negated k.members.now after → Repeats (p.Class k) after r
        → Reads bytes (Some r)
    class_reads is k after held again =
        let from = ascii bytes left c e 91 (omega arith) is in
        char_reads (subst (λ l. Takes l r) (sym from) (class_takes left k after r held again))

    pub other_reads : Other c → Repeats (p.Char c) left r → Reads bytes (Some r)
    other_reads n again = char_reads (subst (λ l. Takes l r) (sym e) (other_takes left c r again n))

  pub backslash_reads : c ≡ 92 → (r : Option (Item × Items)) → Reads (92 ∷ left) r → Reads bytes r
  backslash_reads is r h = subst (λ l. Reads l r) (sym (ascii bytes left c e 92 (omega arith) is)) h
