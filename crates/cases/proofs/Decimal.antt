-- What reading a number says of its digits. Assumes nothing.
use Rattle.std.proofs.Common.{◌≡◌, ℕ, suc, ◌+◌, ◌-◌, ◌*◌, ◌<◌, ◌≤◌, List, [], ◌∷◌, length, Ok, Err, Result, sym, refl, subst, ⊎_elim, arith, MatchResult}
use Rattle.std.specs.List.{AllByRecursion}
use Rattle.std.proofs.lemmas.Bool.{cases_lt}
use Rattle.std.proofs.lemmas.Bool.Decides.{nat_tests}
use Rattle.cases.specs.declared.fault.Fault.{Fault}
use Rattle.cases.specs.declared.fault.Fault.TheVariants.{Missing, Extra, NoDigits, NoDigit, TooLarge, NoBytes, OddDigits, NoHexadecimal, Memory}
use Rattle.cases.specs.Number.{most, grown, go_on, number_from, number_of, Digit, value_from, Writes, BlamedFrom, Blamed}

-- one digit more
data Grew (n d : ℕ) : Type 0 where
  fits : Digit d → n * 10 + (d - 48) ≤ most → grown n d ≡ Ok (n * 10 + (d - 48)) → Grew n d
  no_digit : (Digit d → ⊥) → grown n d ≡ Err NoDigit → Grew n d
  large : Digit d → most < n * 10 + (d - 48) → grown n d ≡ Err TooLarge → Grew n d

grew : (n d : ℕ) → Grew n d
grew n d =
    ⊎_elim
    (λ (low : d < 48). no_digit (λ x. omega arith) (grind (arith, nat_tests)))
    (λ ge. ⊎_elim
    (λ (high : 57 < d). no_digit (λ x. omega arith) (grind (arith, nat_tests)))
    (λ le. ⊎_elim
    (λ (over : most < n * 10 + (d - 48)). large (ge, le) over (grind (arith, nat_tests)))
    (λ small. fits (ge, le) small (grind (arith, nat_tests)))
    (cases_lt most (n * 10 + (d - 48))))
    (cases_lt 57 d))
    (cases_lt d 48)

-- what the reading from n on says
abbrev Law : ℕ → List ℕ → Result ℕ Fault → Type 0
Law n ds (Ok m) = AllByRecursion Digit ds × (m ≡ value_from n ds) × (m ≤ most)
Law n ds (Err x) = BlamedFrom n x ds

-- one digit before it
before : (n d : ℕ) (ds : List ℕ) → Digit d → (r : Result ℕ Fault) → ((ds ≡ []) → r ≡ Err NoDigits → ⊥) → Law (n * 10 + (d - 48)) ds r → Law n (d ∷ ds) r
before n d ds dig (Ok m) real l = ((dig, l.0), l.1, l.2)
before n d ds dig (Err NoDigits) real l = absurd (real (none ds l) refl)
  where
    none : (ds : List ℕ) → length ds ≡ 0 → ds ≡ []
    none [] h = refl
    none (d ∷ ds) h = absurd (omega arith)
before n d ds dig (Err NoDigit) real l = (suc l.0, (let h = l.1 in omega arith), (dig, l.2), l.3, l.4)
before n d ds dig (Err TooLarge) real l = (suc l.0, (let h = l.1 in omega arith), (dig, l.2), l.3)
before n d ds dig (Err Missing) real l = l
before n d ds dig (Err Extra) real l = l
before n d ds dig (Err NoBytes) real l = l
before n d ds dig (Err OddDigits) real l = l
before n d ds dig (Err NoHexadecimal) real l = l
before n d ds dig (Err Memory) real l = l

ends : (n : ℕ) (ds : List ℕ) → ds ≡ [] → number_from n ds ≡ Err NoDigits → ⊥
ends n [] e h = cc
ends n (d ∷ ds) e h = cc

law_by : (n d : ℕ) (ds : List ℕ) → n ≤ most → Grew n d → ((m : ℕ) → m ≤ most → Law m ds (number_from m ds)) → Law n (d ∷ ds) (go_on (grown n d) (λ m. number_from m ds))
law_by n d ds le (fits dig small is) more =
    subst (λ (r : Result ℕ Fault). Law n (d ∷ ds) (go_on r (λ m. number_from m ds))) (sym is)
    (before n d ds dig (number_from (n * 10 + (d - 48)) ds) (ends (n * 10 + (d - 48)) ds) (more (n * 10 + (d - 48)) small))
law_by n d ds le (no_digit not is) more =
    subst (λ (r : Result ℕ Fault). Law n (d ∷ ds) (go_on r (λ m. number_from m ds))) (sym is) (0, (omega arith), tt, le, not)
law_by n d ds le (large dig over is) more =
    subst (λ (r : Result ℕ Fault). Law n (d ∷ ds) (go_on r (λ m. number_from m ds))) (sym is) (1, (omega arith), (dig, tt), over)

law_from : (n : ℕ) (ds : List ℕ) → n ≤ most → Law n ds (number_from n ds)
law_from n [] le = (tt, refl, le)
law_from n (d ∷ ds) le = law_by n d ds le (grew n d) (λ m small. law_from m ds small)

told : (field : List ℕ) (r : Result ℕ Fault) → 0 < length field → Law 0 field r → MatchResult r (λ n. Writes n field) (λ x. Blamed x field)
told field (Ok n) lt l = record { filled = lt; digits = l.0; value = l.1; fits = l.2 }
told field (Err x) lt l = l

pub law : (field : List ℕ) → MatchResult (number_of field) (λ n. Writes n field) (λ x. Blamed x field)
law [] = refl
law (d ∷ ds) = told (d ∷ ds) (number_from 0 (d ∷ ds)) (omega arith) (law_from 0 (d ∷ ds) (omega arith))

pub number_filled : (field : List ℕ) → 0 < length field → number_of field ≡ number_from 0 field
number_filled [] lt = absurd (omega arith)
number_filled (d ∷ ds) lt = refl

pub number_empty : (field : List ℕ) → length field ≡ 0 → number_of field ≡ Err NoDigits
number_empty [] h = refl
number_empty (d ∷ ds) h = absurd (omega arith)

pub told_at : (field : List ℕ) (r : Result ℕ Fault) → r ≡ number_of field → MatchResult r (λ n. Writes n field) (λ x. Blamed x field)
told_at field r is = subst (λ (q : Result ℕ Fault). MatchResult q (λ n. Writes n field) (λ x. Blamed x field)) (sym is) (law field)
