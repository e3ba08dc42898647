-- The test of a word at a place decides whether the word counts there. Assumes nothing.
use Rattle.std.specs.Prelude.{◌≡◌, ℕ, zero, suc, ◌+◌, ◌-◌, ◌<◌, ◌≤◌, true, false, not, ◌&&◌, List, [], ◌∷◌, ◌++◌, map, length, drop, Some, IsUtf8, ◌==◌, nat_le, slice_index, refl}
use Rattle.std.proofs.Common.{sym, ap, subst, ◌∙◌, ⊎_elim, arith, add-zero, le_of_suc-le-suc}
use Rattle.std.proofs.Math.Utf8.{encode}
use Rattle.std.specs.Char.{to_ascii_lowercase, len_utf8}
use Rattle.std.specs.Str.{IsCharBoundary}
use Rattle.std.specs.List.{AllByRecursion}
use Rattle.std.proofs.lemmas.List.{map-append, length-map, length-append, length-drop, get_or-drop, at_drop_more, at_drop_all}
use Rattle.std.proofs.lemmas.Bool.{and_parts, and_from, or_cases, or_left, or_right, not-true, not_from_false, eqb-true, eq-eqb, leb-true, le-leb, cases_lt, false≢true}
use Rattle.std.proofs.lemmas.Str.{IsCharBoundary-after_ascii, IsCharBoundary-past_char, drop_past_char, IsUtf8-drop, length-encode}
use Rattle.std.proofs.lemmas.Bool.Decides.{nat_tests}
use Rattle.words.specs.Grammar.{Sign, plain, wide, marked, numbered, Word, signs, GoodSigns}
use Rattle.words.specs.Meaning.{Letters, same_letter, stands, side, free_before, free_after, counts}
use Rattle.words.specs.Found.{Texts, Counts}
use Rattle.words.proofs.Spelling.{spelled, spelled_word, encode_high, bare_low, mark_low}

texts_letters : (ss : List Sign) (t : List ℕ) → Texts ss t → spelled ss ≡ map Some t
texts_letters [] t h = ap (map Some) (sym h)
texts_letters (plain c ∷ ss) t h = ap (λ l. Some c ∷ l) (texts_letters ss h.0 h.2) ∙ ap (map Some) (sym h.1)
texts_letters (wide c ∷ ss) t h =
    ap (λ l. map Some (encode c) ++ l) (texts_letters ss h.0 h.2) ∙ sym (map-append Some (encode c) h.0) ∙ ap (map Some) (sym h.1)
texts_letters (marked c ∷ ss) t h = ap (λ l. Some c ∷ l) (texts_letters ss h.0 h.2) ∙ ap (map Some) (sym h.1)
texts_letters (numbered d ∷ ss) t h = absurd h

-- what stands has a first byte, and the rest stands behind it
stands_first : (c : ℕ) (w : Letters) (bs : List ℕ) → stands (Some c ∷ w) bs ≡ true → (b : ℕ) × (rest : List ℕ) × (bs ≡ b ∷ rest) × (same_letter c b ≡ true) × (stands w rest ≡ true)
stands_first c w [] e = absurd (false≢true e)
stands_first c w (b ∷ bs) e = let h = and_parts (same_letter c b) (stands w bs) e in (b, bs, refl, h.0, h.1)

stands_behind : (xs : List ℕ) (w : Letters) (bs : List ℕ) → stands (map Some xs ++ w) bs ≡ true → (rest : List ℕ) × (stands w rest ≡ true)
stands_behind [] w bs e = (bs, e)
stands_behind (x ∷ xs) w bs e = let h = stands_first x (map Some xs ++ w) bs e in stands_behind xs w h.1 h.4

stands_texts : (ss : List Sign) (bs : List ℕ) → stands (spelled ss) bs ≡ true → (t : List ℕ) × Texts ss t
stands_texts [] bs e = ([], refl)
stands_texts (plain c ∷ ss) bs e = let h = stands_first c (spelled ss) bs e in let r = stands_texts ss h.1 h.4 in (c ∷ r.0, (r.0, refl, r.1))
stands_texts (wide c ∷ ss) bs e = let h = stands_behind (encode c) (spelled ss) bs e in let r = stands_texts ss h.0 h.1 in (encode c ++ r.0, (r.0, refl, r.1))
stands_texts (marked c ∷ ss) bs e = let h = stands_first c (spelled ss) bs e in let r = stands_texts ss h.1 h.4 in (c ∷ r.0, (r.0, refl, r.1))
stands_texts (numbered d ∷ ss) bs e = absurd (false≢true e)

-- a text stands where each of its bytes does
abbrev SameText : List ℕ → List ℕ → Type 0
SameText t bs = (length t ≤ length bs) × ((i : ℕ) → i < length t → to_ascii_lowercase (slice_index bs i) ≡ to_ascii_lowercase (slice_index t i))

stands_same : (t bs : List ℕ) → stands (map Some t) bs ≡ true → SameText t bs
stands_same [] bs e = (omega arith, λ i h. absurd (omega arith))
stands_same (c ∷ t) [] e = absurd (false≢true e)
stands_same (c ∷ t) (b ∷ bs) e =
    let h = and_parts (same_letter c b) (stands (map Some t) bs) e in
    let r = stands_same t bs h.1 in
    (omega (arith, r.0), at (sym (eqb-true (to_ascii_lowercase c) (to_ascii_lowercase b) h.0)) r.1)
  where
    at : to_ascii_lowercase b ≡ to_ascii_lowercase c → ((i : ℕ) → i < length t → to_ascii_lowercase (slice_index bs i) ≡ to_ascii_lowercase (slice_index t i)) → (i : ℕ) → i < length (c ∷ t) → to_ascii_lowercase (slice_index (b ∷ bs) i) ≡ to_ascii_lowercase (slice_index (c ∷ t) i)
    at here more zero h = here
    at here more (suc i) h = more i (le_of_suc-le-suc h)

same_stands : (t bs : List ℕ) → SameText t bs → stands (map Some t) bs ≡ true
same_stands [] bs h = refl
same_stands (c ∷ t) [] h = absurd (omega (arith, h.0))
same_stands (c ∷ t) (b ∷ bs) h =
    and_from (same_letter c b) (stands (map Some t) bs) (eq-eqb (to_ascii_lowercase c) (to_ascii_lowercase b) (sym (h.1 0 (omega arith))))
    (same_stands t bs (omega (arith, h.0), λ i lt. h.1 (suc i) (omega arith)))

-- the sides
before_free : (l : List ℕ) (b : ℕ) → free_before l b ≡ true → (k : ℕ) → suc k ≡ b → side (slice_index l k) ≡ false
before_free l b e k is =
    ⊎_elim (λ z. absurd (omega (arith, eqb-true b 0 z)))
    (λ n. let same : b - 1 ≡ k = omega arith in subst (λ (j : ℕ). side (slice_index l j) ≡ false) same (not-true (side (slice_index l (b - 1))) n))
    (or_cases (b == 0) (not (side (slice_index l (b - 1)))) e)

free_before_lem : (l : List ℕ) (b : ℕ) → ((k : ℕ) → suc k ≡ b → side (slice_index l k) ≡ false) → free_before l b ≡ true
free_before_lem l zero h = refl
free_before_lem l (suc k) h =
    let same : suc k - 1 ≡ k = omega arith in
    or_right (suc k == 0) _ (not_from_false (side (slice_index l (suc k - 1))) (subst (λ (j : ℕ). side (slice_index l j) ≡ false) (sym same) (h k refl)))

behind_free : (l : List ℕ) (e : ℕ) → free_after l e ≡ true → e < length l → side (slice_index l e) ≡ false
behind_free l e h lt = ⊎_elim (λ k. absurd (omega (arith, leb-true (length l) e k))) (λ n. not-true (side (slice_index l e)) n) (or_cases (nat_le (length l) e) (not (side (slice_index l e))) h)

free_behind : (l : List ℕ) (e : ℕ) → (e < length l → side (slice_index l e) ≡ false) → free_after l e ≡ true
free_behind l e h =
    ⊎_elim (λ lt. or_right (nat_le (length l) e) _ (not_from_false (side (slice_index l e)) (h lt))) (λ le. or_left (nat_le (length l) e) _ (le-leb (length l) e le)) (cases_lt e (length l))

module _ (w : Word) (l : List ℕ) (b : ℕ) where
  drop_same : (t : List ℕ) → b ≤ length l → SameText t (drop b l) → (b + length t ≤ length l) × ((i : ℕ) → i < length t → to_ascii_lowercase (slice_index l (b + i)) ≡ to_ascii_lowercase (slice_index t i))
  drop_same t le h = (omega (arith, h.0, length-drop b l), λ i lt. ap to_ascii_lowercase (sym (get_or-drop b l i 0)) ∙ h.1 i lt)

  pub counts_tells : b ≤ length l → counts (spelled_word w) l b ≡ true → Counts w l b (b + length (spelled_word w))
  counts_tells le e =
      let sides = and_parts (free_before l b) (stands (spelled_word w) (drop b l) && free_after l (b + length (spelled_word w))) e in
      let here = and_parts (stands (spelled_word w) (drop b l)) (free_after l (b + length (spelled_word w))) sides.1 in
      let t = stands_texts (signs w) (drop b l) here.0 in
      let same = texts_letters (signs w) t.0 t.1 in
      let long : length (spelled_word w) ≡ length t.0 = ap length same ∙ length-map t.0 Some in
      let is = drop_same t.0 le (stands_same t.0 (drop b l) (subst (λ x. stands x (drop b l) ≡ true) same here.0)) in
      record {
        text = t.0;
        spelled = t.1;
        long = omega arith;
        within = omega (arith, is.0);
        same = is.1;
        before = before_free l b sides.0;
        behind = behind_free l (b + length (spelled_word w)) here.1;
      }

  pub counted : (e : ℕ) → Counts w l b e → counts (spelled_word w) l b ≡ true
  counted e k =
      let same = texts_letters (signs w) k.text k.spelled in
      let long : length (spelled_word w) ≡ length k.text = ap length same ∙ length-map k.text Some in
      let end : e ≡ b + length (spelled_word w) = omega (arith, k.long) in
      let is : SameText k.text (drop b l) = (omega (arith, k.long, k.within, length-drop b l), λ i lt. ap to_ascii_lowercase (get_or-drop b l i 0) ∙ k.same i lt) in
      and_from (free_before l b) _ (free_before_lem l b k.before)
      (and_from (stands (spelled_word w) (drop b l)) _ (subst (λ x. stands x (drop b l) ≡ true) (sym same) (same_stands k.text (drop b l) is))
      (subst (λ (q : ℕ). free_after l q ≡ true) end (free_behind l e k.behind)))

  pub uncounted : counts (spelled_word w) l b ≡ false → (e : ℕ) → Counts w l b e → ⊥
  uncounted no' e k = let y = counted e k in let z : ◌≡◌ {A = ℕ} 0 1 = cc in omega arith

-- what stands at an edge of a text ends at an edge
low_same : (c b : ℕ) → c < 128 → same_letter c b ≡ true → b < 128
low_same c b h e = let s = eqb-true (to_ascii_lowercase c) (to_ascii_lowercase b) e in grind (arith, nat_tests)

high_same : (c b : ℕ) → 128 ≤ c → same_letter c b ≡ true → b ≡ c
high_same c b h e = let s = eqb-true (to_ascii_lowercase c) (to_ascii_lowercase b) e in grind (arith, nat_tests)

exact : (xs : List ℕ) (w : Letters) (bs : List ℕ) → AllByRecursion (λ x. 128 ≤ x) xs → stands (map Some xs ++ w) bs ≡ true → (rest : List ℕ) × (bs ≡ xs ++ rest) × (stands w rest ≡ true)
exact [] w bs h e = (bs, refl, e)
exact (x ∷ xs) w bs h e =
    let f = stands_first x (map Some xs ++ w) bs e in
    let r = exact xs w f.1 h.1 f.4 in
    let b = high_same x f.0 h.0 f.3 in
    (r.0, f.2 ∙ (λ i. b i ∷ r.1 i), r.2)

module _ (l : List ℕ) (u : IsUtf8 l) where
  ascii_edge : (c p : ℕ) (w : Letters) → c < 128 → stands (Some c ∷ w) (drop p l) ≡ true → IsCharBoundary l (p + 1) × (stands w (drop (p + 1) l) ≡ true)
  ascii_edge c p w low e =
      ⊎_elim
      (λ lt.
      let h = and_parts (same_letter c (slice_index l p)) (stands w (drop (p + 1) l)) (sym (at_drop_more (stands (Some c ∷ w)) l p 0 lt) ∙ e) in
      (IsCharBoundary-after_ascii l p u lt (low_same c (slice_index l p) low h.0), h.1))
      (λ le. absurd (false≢true (sym (at_drop_all (stands (Some c ∷ w)) l p le) ∙ e)))
      (cases_lt p (length l))

  pub ends_edge : (ss : List Sign) → GoodSigns ss → (p : ℕ) → IsCharBoundary l p → stands (spelled ss) (drop p l) ≡ true → IsCharBoundary l (p + length (spelled ss))
  ends_edge [] g p b e = subst (IsCharBoundary l) (sym (add-zero p)) b
  ends_edge (plain c ∷ ss) g p b e =
      let k : (p + 1) + length (spelled ss) ≡ p + suc (length (spelled ss)) = omega arith in
      let h = ascii_edge c p (spelled ss) (bare_low c g.0) e in
      subst (IsCharBoundary l) k (ends_edge ss g.1 (p + 1) h.0 h.1)
  ends_edge (wide c ∷ ss) g p b e =
      let r = exact (encode c) (spelled ss) (drop p l) (encode_high c g.0.0) e in
      let past = drop_past_char l r.0 p c r.1 in
      let k : (p + len_utf8 c) + length (spelled ss) ≡ p + length (map Some (encode c) ++ spelled ss) =
      omega (arith, length-append (map Some (encode c)) (spelled ss), length-map (encode c) Some, length-encode c) in
      subst (IsCharBoundary l) k
      (ends_edge ss g.1 (p + len_utf8 c) (IsCharBoundary-past_char l r.0 p c b.0 (IsUtf8-drop l p u b) r.1) (subst (λ x. stands (spelled ss) x ≡ true) (sym past) r.2))
  ends_edge (marked c ∷ ss) g p b e =
      let k : (p + 1) + length (spelled ss) ≡ p + suc (length (spelled ss)) = omega arith in
      let h = ascii_edge c p (spelled ss) (mark_low c g.0) e in
      subst (IsCharBoundary l) k (ends_edge ss g.1 (p + 1) h.0 h.1)
  ends_edge (numbered d ∷ ss) g p b e = absurd (false≢true e)
