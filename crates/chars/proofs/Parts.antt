-- The lines of a sheet, joined and apart. Assumes nothing.
use Rattle.std.proofs.Common.{◌≡◌, ℕ, zero, suc, ◌+◌, ◌<◌, eqb, List, [], ◌∷◌, ◌++◌, length, get_or, take, drop, sym, refl, ap, ◌∙◌, subst, le_of_suc-le-suc, add-one, arith}
use Rattle.std.specs.List.{flat_map}
use Rattle.std.proofs.lemmas.List.{take-append-drop, take_all, drop_all}
use Rattle.std.proofs.lemmas.Bool.{cond_both, cond-true, cond-false, eqb-true, eqb-false, eq-eqb, ne_eqb}
use Rattle.chars.specs.Lines.{onto, parts, Line, Ended, Sheet, Cut, First}

abbrev join : List (List ℕ) → List ℕ
join ps = flat_map (λ (line : List ℕ). line) ps

join_onto : (b : ℕ) (ps : List (List ℕ)) → join (onto b ps) ≡ b ∷ join ps
join_onto b [] = refl
join_onto b (p ∷ ps) = refl

joins : (bs : List ℕ) → join (parts bs) ≡ bs
joins [] = refl
joins (b ∷ bs) =
    cond_both (eqb b 10) ((b ∷ []) ∷ parts bs) (onto b (parts bs)) (λ ps. join ps ≡ b ∷ bs)
    (λ e. ap (λ l. b ∷ l) (joins bs)) (λ e. join_onto b (parts bs) ∙ ap (λ l. b ∷ l) (joins bs))

single : (b : ℕ) → Line (b ∷ [])
single b = record { filled = omega arith; whole = λ k h e. omega arith }

single_ended : (b : ℕ) → b ≡ 10 → Ended (b ∷ [])
single_ended b e zero h = e
single_ended b e (suc k) h = absurd (omega arith)

line_onto : (b : ℕ) (p : List ℕ) → (b ≡ 10 → ⊥) → Line p → Line (b ∷ p)
line_onto b p n l = record { filled = omega arith; whole = at }
  where
    at : (k : ℕ) → suc k < length (b ∷ p) → get_or (b ∷ p) k 0 ≡ 10 → ⊥
    at zero h e = n e
    at (suc k) h e = l.whole k (le_of_suc-le-suc h) e

ended_onto : (b : ℕ) (p : List ℕ) → Line p → Ended p → Ended (b ∷ p)
ended_onto b p l e zero h = absurd (let f = l.filled in omega arith)
ended_onto b p l e (suc k) h = e k (omega arith)

sheet_end : (b : ℕ) (ps : List (List ℕ)) → b ≡ 10 → Sheet ps → Sheet ((b ∷ []) ∷ ps)
sheet_end b [] e s = single b
sheet_end b (p ∷ ps) e s = (single b, single_ended b e, s)

sheet_onto : (b : ℕ) (ps : List (List ℕ)) → (b ≡ 10 → ⊥) → Sheet ps → Sheet (onto b ps)
sheet_onto b [] n s = single b
sheet_onto b (p ∷ []) n s = line_onto b p n s
sheet_onto b (p ∷ (q ∷ ps)) n s = (line_onto b p n s.0, ended_onto b p s.0 s.1, s.2)

sheet : (bs : List ℕ) → Sheet (parts bs)
sheet [] = tt
sheet (b ∷ bs) = cond_both (eqb b 10) _ _ Sheet (λ e. sheet_end b (parts bs) (eqb-true b 10 e) (sheet bs)) (λ e. sheet_onto b (parts bs) (eqb-false b 10 e) (sheet bs))

pub cut : (bs : List ℕ) → Cut bs
cut bs = record { joins = joins bs; sheet = sheet bs }

-- no byte 10 below n
abbrev Free : List ℕ → ℕ → Type 0
Free bs n = (k : ℕ) → k < n → get_or bs k 0 ≡ 10 → ⊥

part_at : (bs : List ℕ) (n : ℕ) → Free bs n → n < length bs → get_or bs n 0 ≡ 10 → parts bs ≡ take (suc n) bs ∷ parts (drop (suc n) bs)
part_at [] n free lt e = absurd (omega arith)
part_at (b ∷ bs) zero free lt e = cond-true (eqb b 10) _ _ (eq-eqb b 10 e)
part_at (b ∷ bs) (suc n) free lt e =
    cond-false (eqb b 10) _ _ (ne_eqb b 10 (free 0 (omega arith)))
    ∙ ap (onto b) (part_at bs n (λ k h. free (suc k) (omega arith)) (le_of_suc-le-suc lt) e)

part_last : (bs : List ℕ) → Free bs (length bs) → 0 < length bs → parts bs ≡ bs ∷ []
part_last [] free lt = absurd (omega arith)
part_last (b ∷ []) free lt = cond-false (eqb b 10) _ _ (ne_eqb b 10 (free 0 (omega arith)))
part_last (b ∷ (c ∷ bs)) free lt =
    cond-false (eqb b 10) _ _ (ne_eqb b 10 (free 0 (omega arith)))
    ∙ ap (onto b) (part_last (c ∷ bs) (λ k h. free (suc k) (omega arith)) (omega arith))

-- what the first of the lines is, from that it is the first
sheet_first : (line : List ℕ) (ps : List (List ℕ)) → Sheet (line ∷ ps) → Line line
sheet_first line [] s = s
sheet_first line (p ∷ ps) s = s.0

sheet_ended : (line rest : List ℕ) (ps : List (List ℕ)) → parts rest ≡ ps → Sheet (line ∷ ps) → 0 < length rest → Ended line
sheet_ended line [] ps e s lt = absurd (omega arith)
sheet_ended line (b ∷ bs) [] e s lt = let j = ap join e ∙ refl in let z = ap length (sym (joins (b ∷ bs)) ∙ j) in absurd (omega arith)
sheet_ended line (b ∷ bs) (p ∷ ps) e s lt = s.1

pub first : (bs line rest : List ℕ) → line ++ rest ≡ bs → parts bs ≡ line ∷ parts rest → First bs line rest
first bs line rest j next =
    let s = subst Sheet next (sheet bs) in
    record { joins = j; is = sheet_first line (parts rest) s; ended = sheet_ended line rest (parts rest) refl s; next = next }

-- the two ways in which the search for byte 10 ends
pub first_cut : (bs : List ℕ) (n : ℕ) → Free bs n → n < length bs → get_or bs n 0 ≡ 10 → First bs (take (n + 1) bs) (drop (n + 1) bs)
first_cut bs n free lt e =
    subst (λ (m : ℕ). First bs (take m bs) (drop m bs)) (sym (add-one n))
    (first bs (take (suc n) bs) (drop (suc n) bs) (take-append-drop (suc n) bs) (part_at bs n free lt e))

pub first_last : (bs : List ℕ) (n : ℕ) → Free bs n → 0 < length bs → n ≡ length bs → First bs (take n bs) (drop n bs)
first_last bs n free lt e =
    first bs (take n bs) (drop n bs) (take-append-drop n bs)
    (part_last bs (subst (Free bs) e free) lt ∙ ap (λ l. l ∷ []) (sym (take_all n bs (omega arith))) ∙ ap (λ l. take n bs ∷ parts l) (sym (drop_all n bs (omega arith))))
