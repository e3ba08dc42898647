-- The rule of the table of sets, proved at all of its entries by one test that antt computes, one entry after the other.
-- Assumes nothing.
use Rattle.std.proofs.Common.{◌≡◌, ℕ, zero, suc, ◌+◌, ◌<◌, ◌≤◌, Bool, true, ◌&&◌, eqb, List, [], ◌∷◌, length, Some, None, Option, get_or, sym, refl, ap, ◌∙◌, subst, ⊎_elim, le_of_suc-le-suc, not-suc-le-zero, add-zero, add-suc, suc-add, zero-add, arith}
use Rattle.std.specs.Option.{option_flatten, unwrap_or}
use Rattle.std.proofs.lemmas.List.{get_or_past}
use Rattle.std.proofs.lemmas.Bool.{and_parts, eqb-true, cases_lt}
use Rattle.std.proofs.lemmas.Bool.Decides.{nat_tests}
use Rattle.chars.specs.declared.sets.Sort.{Sort}
use Rattle.chars.specs.declared.sets.Sort.TheVariants.{Digit, Letter, Space}
use Rattle.chars.specs.Sets.{sort_of}

-- numbers for the entries, so that a test tells them apart
abbrev code : Option Sort → ℕ
code None = 0
code (Some Digit) = 1
code (Some Letter) = 2
code (Some Space) = 3

abbrev coded : ℕ → Option Sort
coded zero = None
coded (suc zero) = Some Digit
coded (suc (suc zero)) = Some Letter
coded (suc (suc (suc n))) = Some Space

coded_code : (x : Option Sort) → coded (code x) ≡ x
coded_code None = refl
coded_code (Some Digit) = refl
coded_code (Some Letter) = refl
coded_code (Some Space) = refl

abbrev same : Option Sort → Option Sort → Bool
same x y = eqb (code x) (code y)

same_is : (x y : Option Sort) → same x y ≡ true → x ≡ y
same_is x y e = sym (coded_code x) ∙ ap coded (eqb-true (code x) (code y) e) ∙ coded_code y

-- the test f passes at each entry of the list and its place, counted from i
abbrev every : {X : Type 0} → (ℕ → X → Bool) → ℕ → List X → Bool
every f i [] = true
every f i (x ∷ xs) = f i x && every f (suc i) xs

from : {X : Type 0} (f : ℕ → X → Bool) (xs : List X) (i : ℕ) → every f i xs ≡ true → (k : ℕ) (d : X) → k < length xs → f (i + k) (get_or xs k d) ≡ true
from f [] i t k d h = absurd (not-suc-le-zero h)
from f (x ∷ xs) i t zero d h = subst (λ (m : ℕ). f m x ≡ true) (sym (add-zero i)) (and_parts (f i x) (every f (suc i) xs) t).0
from f (x ∷ xs) i t (suc k) d h =
    subst (λ (m : ℕ). f m (get_or xs k d) ≡ true) (suc-add i k ∙ sym (add-suc i k))
    (from f xs (suc i) (and_parts (f i x) (every f (suc i) xs) t).1 k d (le_of_suc-le-suc h))

abbrev D : Option Sort
D = Some Digit

abbrev L : Option Sort
L = Some Letter

abbrev S : Option Sort
S = Some Space

abbrev O : Option Sort
O = None

abbrev table : List (Option Sort)
table =
    O ∷ O ∷ O ∷ O ∷ O ∷ O ∷ O ∷ O ∷ O ∷ S ∷ S ∷ S ∷ S ∷ S ∷ O ∷ O ∷
    O ∷ O ∷ O ∷ O ∷ O ∷ O ∷ O ∷ O ∷ O ∷ O ∷ O ∷ O ∷ O ∷ O ∷ O ∷ O ∷
    S ∷ O ∷ O ∷ O ∷ O ∷ O ∷ O ∷ O ∷ O ∷ O ∷ O ∷ O ∷ O ∷ O ∷ O ∷ O ∷
    D ∷ D ∷ D ∷ D ∷ D ∷ D ∷ D ∷ D ∷ D ∷ D ∷ O ∷ O ∷ O ∷ O ∷ O ∷ O ∷
    O ∷ L ∷ L ∷ L ∷ L ∷ L ∷ L ∷ L ∷ L ∷ L ∷ L ∷ L ∷ L ∷ L ∷ L ∷ L ∷
    L ∷ L ∷ L ∷ L ∷ L ∷ L ∷ L ∷ L ∷ L ∷ L ∷ L ∷ O ∷ O ∷ O ∷ O ∷ L ∷
    O ∷ L ∷ L ∷ L ∷ L ∷ L ∷ L ∷ L ∷ L ∷ L ∷ L ∷ L ∷ L ∷ L ∷ L ∷ L ∷
    L ∷ L ∷ L ∷ L ∷ L ∷ L ∷ L ∷ L ∷ L ∷ L ∷ L ∷ O ∷ O ∷ O ∷ O ∷ O ∷ []

-- the rule, computed at each entry of the table; past its end there is none
below : (b : ℕ) → b < 128 → get_or table b None ≡ sort_of b
below b h =
    same_is (get_or table b None) (sort_of b)
    (subst (λ (m : ℕ). same (get_or table b None) (sort_of m) ≡ true) (zero-add b) (from (λ k x. same x (sort_of k)) table 0 refl b None h))

past : (b : ℕ) → 128 ≤ b → sort_of b ≡ None
past b h = grind (arith, nat_tests)

pub table_right : (b : ℕ) → get_or table b None ≡ sort_of b
table_right b = ⊎_elim (below b) (λ h. get_or_past table b None h ∙ sym (past b h)) (cases_lt b 128)

pub flat : (o : Option (Option Sort)) → option_flatten o ≡ unwrap_or o None
flat None = refl
flat (Some x) = refl
