-- The walk through an expression gives the first word that counts. Assumes nothing.
use Rattle.std.proofs.Common.{◌≡◌, ℕ, suc, ◌+◌, ◌<◌, ◌≤◌, Bool, true, false, cond, ◌&&◌, eqb, ltb, List, [], ◌∷◌, length, get_or, drop, Some, None, Option, sym, refl, ap, ◌∙◌, ⊎_elim, add-zero, arith}
use Rattle.std.proofs.lemmas.List.{at_drop_more, at_drop_all}
use Rattle.std.proofs.lemmas.Bool.{cond-true, cond-false, cond_both, and_parts, and_cases, and_left, ltb-true, ltb-false, eqb-true, cases_Bool}
use Rattle.chars.specs.Sets.{digit}
use Rattle.matcher.specs.declared.answer.Region.{Region}
use Rattle.matcher.specs.Regions.{spanning}
use Rattle.word.specs.declared.walk.Walk.{Walk}
use Rattle.words.specs.Meaning.{Letters, onto, read_from, words_of, same_letter, stands, free_before, free_after, first_of, word_at}
use Rattle.word.specs.Walks.{walking, fresh, bar, letter_at, stepped, end_of, or_end, found}

-- where the rest w of a word ends that was found up to q
abbrev word_end : List ℕ → Option ℕ → Letters → Option ℕ
word_end l None w = None
word_end l (Some q) w = cond (stands w (drop q l) && free_after l (q + length w)) (Some (q + length w)) None

abbrev ends : List ℕ → ℕ → List Letters → Option ℕ
ends l p [] = None
ends l p (w ∷ ws) = or_end (word_end l (Some p) w) (ends l p ws)

-- the first word goes on from q, the others begin at p
abbrev ends_from : List ℕ → ℕ → Option ℕ → List Letters → Option ℕ
ends_from l p q [] = or_end (word_end l q []) None
ends_from l p q (w ∷ ws) = or_end (word_end l q w) (ends l p ws)

abbrev pub spanned : ℕ → Option ℕ → Option Region
spanned p None = None
spanned p (Some q) = Some (spanning p q)

module _ (l : List ℕ) where
  stands_here : (b : ℕ) (w : Letters) (q : ℕ) → q < length l → same_letter b (get_or l q 0) ≡ true → stands (Some b ∷ w) (drop q l) ≡ stands w (drop (q + 1) l)
  stands_here b w q lt e = at_drop_more (stands (Some b ∷ w)) l q 0 lt ∙ ap (λ t. t && stands w (drop (q + 1) l)) e

  stands_not : (b : ℕ) (w : Letters) (q : ℕ) → (ltb q (length l) && same_letter b (get_or l q 0)) ≡ false → stands (Some b ∷ w) (drop q l) ≡ false
  stands_not b w q e =
      ⊎_elim (λ h. at_drop_all (stands (Some b ∷ w)) l q (ltb-false q (length l) h))
      (λ h. ⊎_elim
      (λ t. at_drop_more (stands (Some b ∷ w)) l q 0 (ltb-true q (length l) t) ∙ ap (λ t. t && stands w (drop (q + 1) l)) h)
      (λ t. at_drop_all (stands (Some b ∷ w)) l q (ltb-false q (length l) t))
      (cases_Bool (ltb q (length l))))
      (and_cases (ltb q (length l)) (same_letter b (get_or l q 0)) e)

  unfound : (w : Letters) (q : ℕ) → stands w (drop q l) ≡ false → word_end l (Some q) w ≡ None
  unfound w q e = cond-false (stands w (drop q l) && free_after l (q + length w)) _ _ (and_left (stands w (drop q l)) _ e)

  letter_on : (q b : ℕ) (w : Letters) (t : Bool) → (ltb q (length l) && same_letter b (get_or l q 0)) ≡ t → word_end l (cond t (Some (q + 1)) None) w ≡ word_end l (Some q) (Some b ∷ w)
  letter_on q b w true e =
      let h = and_parts (ltb q (length l)) (same_letter b (get_or l q 0)) e in
      let s = stands_here b w q (ltb-true q (length l) h.0) h.1 in
      let k : (q + 1) + length w ≡ q + suc (length w) = omega arith in
      (λ i. cond (sym s i && free_after l (k i)) (Some (k i)) None)
  letter_on q b w false e = sym (unfound (Some b ∷ w) q (stands_not b w q e))

  letter_step : (q : Option ℕ) (b : ℕ) (w : Letters) → word_end l (letter_at q b l) w ≡ word_end l q (Some b ∷ w)
  letter_step None b w = refl
  letter_step (Some q) b w = letter_on q b w (ltb q (length l) && same_letter b (get_or l q 0)) refl

  nowhere_step : (q : Option ℕ) (w : Letters) → None ≡ word_end l q (None ∷ w)
  nowhere_step None w = refl
  nowhere_step (Some q) w = refl

  module _ (p : ℕ) where
    on_letter : (q : Option ℕ) (b : ℕ) (ws : List Letters) → ends_from l p (letter_at q b l) ws ≡ ends_from l p q (onto (Some b) ws)
    on_letter q b [] = ap (λ o. or_end o None) (letter_step q b [])
    on_letter q b (w ∷ ws) = ap (λ o. or_end o (ends l p ws)) (letter_step q b w)

    on_nowhere : (q : Option ℕ) (ws : List Letters) → ends_from l p None ws ≡ ends_from l p q (onto None ws)
    on_nowhere q [] = ap (λ o. or_end o None) (nowhere_step q [])
    on_nowhere q (w ∷ ws) = ap (λ o. or_end o (ends l p ws)) (nowhere_step q w)

    on_escaped : (q : Option ℕ) (b : ℕ) (ws : List Letters) (t : Bool) → ends_from l p (cond t None (letter_at q b l)) ws ≡ ends_from l p q (onto (cond t None (Some b)) ws)
    on_escaped q b ws true = on_nowhere q ws
    on_escaped q b ws false = on_letter q b ws

    end_here : (q : Option ℕ) → end_of q l ≡ word_end l q []
    end_here None = refl
    end_here (Some q) = λ i. cond (free_after l (sym (add-zero q) i)) (Some (sym (add-zero q) i)) None

    end_alone : (q : Option ℕ) → end_of q l ≡ or_end (word_end l q []) None
    end_alone q = alone (end_of q l) ∙ ap (λ o. or_end o None) (end_here q)
      where
        alone : (o : Option ℕ) → o ≡ or_end o None
        alone None = refl
        alone (Some x) = refl

    all_from : (ws : List Letters) (w : Letters) (rest : List Letters) → ws ≡ w ∷ rest → ends_from l p (Some p) ws ≡ ends l p ws
    all_from [] w rest e = let z = ap length e in absurd (omega arith)
    all_from (v ∷ vs) w rest e = refl

    some_word : (t : Bool) (bs : List ℕ) → (w : Letters) × (rest : List Letters) × (read_from t bs ≡ w ∷ rest)
    some_word t [] = ([], [], refl)
    some_word true (b ∷ bs) = let h = some_word false bs in (cond (digit b) None (Some b) ∷ h.0, h.1, ap (onto (cond (digit b) None (Some b))) h.2)
    some_word false (b ∷ bs) =
        cond_both (eqb b 92) _ _ (λ ws. (w : Letters) × (rest : List Letters) × (ws ≡ w ∷ rest)) (λ _. some_word true bs)
        (λ _. cond_both (eqb b 124) _ _ (λ ws. (w : Letters) × (rest : List Letters) × (ws ≡ w ∷ rest)) (λ _. ([], read_from false bs, refl))
        (λ _. let h = some_word false bs in (Some b ∷ h.0, h.1, ap (onto (Some b)) h.2)))

    -- a byte after no backslash: x says that it is a backslash itself, y that it is a bar
    plain_step : (q : Option ℕ) (b : ℕ) (bs : List ℕ)
        → found l p (walking true q) bs ≡ ends_from l p q (read_from true bs)
        → found l p (fresh p) bs ≡ ends_from l p (Some p) (read_from false bs)
        → found l p (walking false (letter_at q b l)) bs ≡ ends_from l p (letter_at q b l) (read_from false bs)
        → (x y : Bool) → eqb b 92 ≡ x → eqb b 124 ≡ y
        → cond y (or_end (end_of q l) (found l p (fresh p) bs)) (found l p (cond x (walking true q) (walking false (letter_at q b l))) bs)
        ≡ ends_from l p q (cond x (read_from true bs) (cond y ([] ∷ read_from false bs) (onto (Some b) (read_from false bs))))
    plain_step q b bs escaped begins letter true true ex ey = absurd (omega (arith, eqb-true b 92 ex, eqb-true b 124 ey))
    plain_step q b bs escaped begins letter true false ex ey = escaped
    plain_step q b bs escaped begins letter false true ex ey =
        let w = some_word false bs in
        let rest = begins ∙ all_from (read_from false bs) w.0 w.1 w.2 in
        (λ i. or_end (end_here q i) (rest i))
    plain_step q b bs escaped begins letter false false ex ey = letter ∙ on_letter q b (read_from false bs)

    walks : (t : Bool) (q : Option ℕ) (bs : List ℕ) → found l p (walking t q) bs ≡ ends_from l p q (read_from t bs)
    walks t q [] = end_alone q
    walks true q (b ∷ bs) = walks false (cond (digit b) None (letter_at q b l)) bs ∙ on_escaped q b (read_from false bs) (digit b)
    walks false q (b ∷ bs) = plain_step q b bs (walks true q bs) (walks false (Some p) bs) (walks false (letter_at q b l) bs) (eqb b 92) (eqb b 124) refl refl

    first_here : (w : Letters) (ws : List Letters) → first_of ws l p ≡ spanned p (ends l p ws) → (t : Bool) → (stands w (drop p l) && free_after l (p + length w)) ≡ t
        → cond t (Some (spanning p (p + length w))) (first_of ws l p) ≡ spanned p (or_end (cond t (Some (p + length w)) None) (ends l p ws))
    first_here w ws rest true e = refl
    first_here w ws rest false e = rest

    first_ends : free_before l p ≡ true → (ws : List Letters) → first_of ws l p ≡ spanned p (ends l p ws)
    first_ends free [] = refl
    first_ends free (w ∷ ws) =
        ap (λ t. cond (t && (stands w (drop p l) && free_after l (p + length w))) (Some (spanning p (p + length w))) (first_of ws l p)) free
        ∙ first_here w ws (first_ends free ws) (stands w (drop p l) && free_after l (p + length w)) refl

    pub none_touched : free_before l p ≡ false → (ws : List Letters) → first_of ws l p ≡ None
    none_touched touched [] = refl
    none_touched touched (w ∷ ws) =
        ap (λ t. cond (t && (stands w (drop p l) && free_after l (p + length w))) (Some (spanning p (p + length w))) (first_of ws l p)) touched ∙ none_touched touched ws

    -- the walk from the begin of an expression
    pub walk_found : (e : List ℕ) → free_before l p ≡ true → word_at e l p ≡ spanned p (found l p (fresh p) e)
    walk_found e free =
        let w = some_word false e in
        first_ends free (words_of e) ∙ ap (spanned p) (sym (walks false (Some p) e ∙ all_from (words_of e) w.0 w.1 w.2))

    -- one turn of the walk, at the byte i of an expression
    module _ (e : List ℕ) (w : Walk) (i : ℕ) (lt : i < length e) where
      pub at_bar : bar w (get_or e i 0) ≡ true → found l p w (drop i e) ≡ or_end (end_of w.reached l) (found l p (fresh p) (drop (i + 1) e))
      at_bar is = at_drop_more (found l p w) e i 0 lt ∙ cond-true (bar w (get_or e i 0)) _ _ is

      pub at_byte : bar w (get_or e i 0) ≡ false → found l p w (drop i e) ≡ found l p (stepped w (get_or e i 0) l) (drop (i + 1) e)
      at_byte other = at_drop_more (found l p w) e i 0 lt ∙ cond-false (bar w (get_or e i 0)) _ _ other

    pub at_end_lem : (e : List ℕ) (w : Walk) (i : ℕ) → length e ≤ i → found l p w (drop i e) ≡ end_of w.reached l
    at_end_lem e w i le = at_drop_all (found l p w) e i le
