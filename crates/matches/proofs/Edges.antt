-- The next edge, as it is computed. Assumes nothing.
use Rattle.std.proofs.Common.{◌≡◌, ℕ, zero, suc, ◌+◌, ◌-◌, ◌<◌, ◌≤◌, true, false, List, length, Some, None, Option, sym, ap, ◌∙◌, subst, ⊎_elim, arith}
use Rattle.std.specs.Str.{IsCharBoundary}
use Rattle.std.proofs.lemmas.Bool.{cond-true, cond-false, cases_Bool, cases_eq, cases_lt}
use Rattle.std.proofs.lemmas.Bool.Decides.{not_from_Decides}
use Rattle.chars.specs.Edges.{edge, NextEdge}
use Rattle.chars.proofs.Text.{edge_tells}
use Rattle.matches.specs.Steps.{edge_from}

no_edge : (l : List ℕ) (p : ℕ) → (IsCharBoundary l p → ⊥) → edge l p ≡ false
no_edge l p h = ⊎_elim (λ t. absurd (h ((edge_tells l p).0 t))) (λ f. f) (cases_Bool (edge l p))

-- q is the first edge among n places from p on
edge_first : (l : List ℕ) (n p q : ℕ) → p ≤ q → q < p + n → IsCharBoundary l q → ((j : ℕ) → p ≤ j → j < q → IsCharBoundary l j → ⊥) → edge_from l n p ≡ Some q
edge_first l zero p q a b here before = absurd (omega arith)
edge_first l (suc n) p q a b here before =
    ⊎_elim
    (λ (same : p ≡ q). cond-true (edge l p) (Some p) (edge_from l n (suc p)) ((edge_tells l p).1 (subst (IsCharBoundary l) (sym same) here)) ∙ ap Some same)
    (λ apart. cond-false (edge l p) (Some p) (edge_from l n (suc p)) (no_edge l p (before p (omega arith) (omega arith))) ∙ edge_first l n (suc p) q (omega arith) (omega arith) here (λ j c d. before j (omega arith) d))
    (cases_eq p q)

pub next_edge : (l : List ℕ) (p : ℕ) (o : Option ℕ) → NextEdge l p o → o ≡ edge_from l (length l - p) (suc p)
next_edge l p None h = let z : 0 ≡ length l - p = omega arith in ap (λ n. edge_from l n (suc p)) z
next_edge l p (Some q) h =
    let fits = h.1.0 in
    sym (edge_first l (length l - p) (suc p) q (omega arith) (omega arith) h.1 (λ j a b. h.2 j (omega arith) b))

-- what is found among n places from p on
abbrev FirstEdge : List ℕ → ℕ → ℕ → Option ℕ → Type 0
FirstEdge l n p None = (q : ℕ) → p ≤ q → q < p + n → IsCharBoundary l q → ⊥
FirstEdge l n p (Some q) = (p ≤ q) × IsCharBoundary l q × ((j : ℕ) → p ≤ j → j < q → IsCharBoundary l j → ⊥)

edge_on : (l : List ℕ) (n p : ℕ) (o : Option ℕ) → (IsCharBoundary l p → ⊥) → FirstEdge l n (suc p) o → FirstEdge l (suc n) p o
edge_on l n p None here h = λ q a b at. ⊎_elim (λ (same : q ≡ p). here (subst (IsCharBoundary l) same at)) (λ apart. h q (omega arith) (omega arith) at) (cases_eq q p)
edge_on l n p (Some q) here h =
    (omega arith, h.1, λ j a b at. ⊎_elim (λ (same : j ≡ p). here (subst (IsCharBoundary l) same at)) (λ apart. h.2 j (omega arith) b at) (cases_eq j p))

edge_from_lem : (l : List ℕ) (n p : ℕ) → FirstEdge l n p (edge_from l n p)
edge_from_lem l zero p = λ q a b at. omega arith
edge_from_lem l (suc n) p =
    ⊎_elim
    (λ (t : edge l p ≡ true). subst (FirstEdge l (suc n) p) (sym (cond-true (edge l p) (Some p) (edge_from l n (suc p)) t)) (omega arith, (edge_tells l p).0 t, λ j a b at. omega arith))
    (λ (f : edge l p ≡ false). subst (FirstEdge l (suc n) p) (sym (cond-false (edge l p) (Some p) (edge_from l n (suc p)) f))
    (edge_on l n p (edge_from l n (suc p)) (not_from_Decides (edge l p) (edge_tells l p) f) (edge_from_lem l n (suc p))))
    (cases_Bool (edge l p))

next_from : (l : List ℕ) (p : ℕ) (o : Option ℕ) → FirstEdge l (length l - p) (suc p) o → NextEdge l p o
next_from l p None h =
    ⊎_elim (λ (lt : p < length l). absurd (h (length l) (omega arith) (omega arith) (omega arith, λ past. absurd (omega arith)))) (λ ge. ge) (cases_lt p (length l))
next_from l p (Some q) h = (omega arith, h.1, λ j a b at. h.2 j (omega arith) b at)

pub edge_next : (l : List ℕ) (p : ℕ) → NextEdge l p (edge_from l (length l - p) (suc p))
edge_next l p = next_from l p _ (edge_from_lem l (length l - p) (suc p))
