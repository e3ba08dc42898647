-- The fields of a record, joined and apart. Assumes nothing.
use Rattle.std.proofs.Common.{◌≡◌, ℕ, zero, suc, ◌+◌, ◌<◌, ◌≤◌, Bool, eqb, List, [], ◌∷◌, length, take, drop, Some, None, le_of_suc-le-suc, subst, arith}
use Rattle.std.specs.List.{AllByRecursion, onto_first, position, position_or_len}
use Rattle.std.proofs.lemmas.Bool.{cond_both, eqb-false}
use Rattle.std.proofs.lemmas.Bool.Decides.{nat_tests}
use Rattle.std.proofs.lemmas.List.Quantifiers.{position-Some}
use Rattle.std.proofs.lemmas.List.Splits.{join_with_byte-slice_split, length-slice_split, slice_split_first, slice_split_none}
use Rattle.std.proofs.lemmas.List.Sums.{position_or_len_is, fails_before_first}
use Rattle.cases.specs.Fields.{fields_of, Whole, Parted}

whole_more : (b : ℕ) (f : List ℕ) → (b ≡ 32 → ⊥) → Whole f → Whole (b ∷ f)
whole_more b f n w zero lt e = n e
whole_more b f n w (suc k) lt e = w k (le_of_suc-le-suc lt) e

whole_onto : (b : ℕ) (fs : List (List ℕ)) → (b ≡ 32 → ⊥) → AllByRecursion Whole fs → AllByRecursion Whole (onto_first b fs)
whole_onto b [] n all = (whole_more b [] n (λ k lt e. omega arith), tt)
whole_onto b (f ∷ fs) n all = (whole_more b f n all.0, all.1)

whole : (bs : List ℕ) → AllByRecursion Whole (fields_of bs)
whole [] = (λ k lt e. omega arith, tt)
whole (b ∷ bs) =
    cond_both (eqb b 32) ([] ∷ fields_of bs) (onto_first b (fields_of bs)) (AllByRecursion Whole)
    (λ e. (λ k lt x. omega arith, whole bs)) (λ e. whole_onto b (fields_of bs) (eqb-false b 32 e) (whole bs))

pub parted : (bs : List ℕ) → Parted bs
parted bs = record { joins = join_with_byte-slice_split 32 bs; whole = whole bs }

pub filled : (bs : List ℕ) → 0 < length (fields_of bs)
filled bs = omega (arith, length-slice_split (λ b. eqb b 32) bs)

abbrev Space : ℕ → Bool
Space b = eqb b 32

-- where the first space stands, the record is cut
pub at_space : (bs : List ℕ) (n : ℕ) → position Space bs ≡ Some n → fields_of bs ≡ take n bs ∷ fields_of (drop (n + 1) bs)
at_space bs n is =
    let first = position-Some Space bs n 0 is in
    let lt = first.0 in
    let here : position_or_len Space bs ≡ n = position_or_len_is Space bs n 0 (omega arith) first.2 (λ _. first.1) in
    subst (λ (k : ℕ). fields_of bs ≡ take k bs ∷ fields_of (drop (k + 1) bs)) here (slice_split_first Space bs 0 (omega arith))

pub no_space : (bs : List ℕ) → position Space bs ≡ None → fields_of bs ≡ bs ∷ []
no_space bs is =
    let past : length bs ≤ position_or_len Space bs = grind (arith, nat_tests) in
    slice_split_none Space bs (λ k d lt. fails_before_first Space bs k d (omega arith))
