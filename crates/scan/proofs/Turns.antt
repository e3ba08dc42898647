-- One turn of the search for the first attempt that finds something. Assumes nothing.
use Rattle.std.proofs.Common.{◌≡◌, ℕ, suc, ◌+◌, ◌-◌, ◌≤◌, Bool, true, false, List, [], ◌∷◌, length, Result, Ok, Err, Some, None, Option, sym, ap, ◌∙◌, subst, arith}
use Rattle.std.specs.Fn.{Mut, Called, Takes}
use Rattle.std.specs.Str.{IsCharBoundary}
use Rattle.std.proofs.lemmas.Bool.{cond-true, cond-false}
use Rattle.chars.specs.Edges.{edge}
use Rattle.chars.proofs.Text.{edge_tells}
use Rattle.matcher.specs.declared.answer.Region.{Region}
use Rattle.scan.specs.Attempts.{TakesEdges, FindsAs}
use Rattle.scan.specs.Earliest.{or_else, seek, at_edges, earliest_from, found_from}
use Rattle.scan.proofs.Earliest.{stops}

-- at a place within a line of n bytes
pub seek_here : (f : ℕ → Option Region) (n p : ℕ) (r : Region) → p ≤ n → f p ≡ Some r → seek f (suc n - p) p ≡ Some r
seek_here f n p r le here = stops f (suc n - p) p p r (omega arith) (omega arith) here (λ j a b. absurd (omega arith))

pub seek_on : (f : ℕ → Option Region) (n p : ℕ) → p ≤ n → f p ≡ None → seek f (suc n - p) p ≡ seek f (suc n - (p + 1)) (p + 1)
seek_on f n p le here =
    let a : suc n - p ≡ suc (n - p) = omega arith in
    let b : n - p ≡ suc n - (p + 1) = omega arith in
    let c : suc p ≡ p + 1 = omega arith in
    ap (λ k. seek f k p) a ∙ ap (λ o. or_else o (seek f (n - p) (suc p))) here ∙ ap (λ k. seek f k (suc p)) b ∙ ap (λ k. seek f (suc n - (p + 1)) k) c

-- past the line's end
seek_past : (f : ℕ → Option Region) (n p : ℕ) → n ≤ p → seek f (suc n - (p + 1)) (p + 1) ≡ None
seek_past f n p ge =
    let b : suc n - (p + 1) ≡ 0 = omega arith in
    ap (λ k. seek f k (p + 1)) b

pub seek_end : (f : ℕ → Option Region) (n p : ℕ) → p ≤ n → n ≤ p → f p ≡ None → seek f (suc n - p) p ≡ None
seek_end f n p le ge here = seek_on f n p le here ∙ seek_past f n p ge

module _ {F E : Type 0} (g : Mut F (ℕ × Unit {0}) (Result (Option Region) E)) (l : List ℕ) where
  -- the attempts from `place` on led from `first` to f, and found nothing below `here`
  pub record Passed (place : ℕ) (first f : F) (here : ℕ) : Type 0 where
    pub takes : TakesEdges g l f
    pub found : (at : ℕ → Option Region) (fails : E → Bool) → FindsAs g l at fails first → FindsAs g l at fails f × (earliest_from l at place ≡ earliest_from l at here)

  pub may_try : (f : F) (p : ℕ) → TakesEdges g l f → IsCharBoundary l p → Takes g f (p, tt)
  may_try f p takes b = (takes.each (p ∷ []) b).0

  answer_now : (at : ℕ → Option Region) (fails : E → Bool) (f f' : F) (p : ℕ) (o : Option Region) → FindsAs g l at fails f → IsCharBoundary l p → Called g f (p, tt) (Ok o) f' → o ≡ at_edges l at p
  answer_now at fails f f' p o answers b call = (answers.each (p ∷ []) b (Ok o) f' call).0 ∙ sym (cond-true (edge l p) (at p) None ((edge_tells l p).1 b))

  module _ (place p : ℕ) (first f : F) (so : Passed place first f p) (le : p ≤ length l) where
    off_edge : edge l p ≡ false → Passed place first f (p + 1)
    off_edge off = record {
      takes = so.takes;
      found = λ at fails answers.
          let h = so.found at fails answers in
          (h.0, h.1 ∙ seek_on (at_edges l at) (length l) p le (cond-false (edge l p) (at p) None off));
    }

    on_edge : IsCharBoundary l p → (f' : F) → Called g f (p, tt) (Ok None) f' → Passed place first f' (p + 1)
    on_edge b f' call = record {
      takes = record { each = λ ps. (so.takes.each (p ∷ ps) b).1 (Ok None) f' call };
      found = λ at fails answers.
          let h = so.found at fails answers in (
            record { each = λ ps. (h.0.each (p ∷ ps) b (Ok None) f' call).1 },
            h.1 ∙ seek_on (at_edges l at) (length l) p le (sym (answer_now at fails f f' p None h.0 b call)),
          );
    }

    -- no edge, or an attempt at it that gives the result r
    pub passes_by : edge l p ≡ false → (f'' : F) → f'' ≡ f → Passed place first f'' (p + 1)
    passes_by off f'' same = subst (λ (v : F). Passed place first v (p + 1)) (sym same) (off_edge off)

    pub passes : edge l p ≡ true → (f' : F) (r : Result (Option Region) E) (o : Option Region) → Called g f (p, tt) r f' → r ≡ Ok o → o ≡ None → (f'' : F) → f'' ≡ f' → Passed place first f'' (p + 1)
    passes on f' r o call is none f'' same =
        subst (λ (v : F). Passed place first v (p + 1)) (sym same) (on_edge ((edge_tells l p).0 on) f' (subst (λ (v : Result (Option Region) E). Called g f (p, tt) v f') (is ∙ ap Ok none) call))

    pub finds : edge l place ≡ true → edge l p ≡ true → (f' : F) (r : Result (Option Region) E) (o : Option Region) (s : Region) → Called g f (p, tt) r f' → r ≡ Ok o → o ≡ Some s
        → (at : ℕ → Option Region) (fails : E → Bool) → FindsAs g l at fails first → Some s ≡ found_from l at place
    finds from on f' r o s call is some at fails answers =
        let h = so.found at fails answers in
        let made : Called g f (p, tt) (Ok (Some s)) f' = subst (λ (v : Result (Option Region) E). Called g f (p, tt) v f') (is ∙ ap Ok some) call in
        sym (cond-true (edge l place) (earliest_from l at place) None from ∙ h.1
        ∙ seek_here (at_edges l at) (length l) p s le (sym (answer_now at fails f f' p (Some s) h.0 ((edge_tells l p).0 on) made)))

    pub breaks : edge l p ≡ true → (f' : F) (r : Result (Option Region) E) (e : E) → Called g f (p, tt) r f' → r ≡ Err e → (at : ℕ → Option Region) (fails : E → Bool) → FindsAs g l at fails first → fails e ≡ true
    breaks on f' r e call is at fails answers =
        ((so.found at fails answers).0.each (p ∷ []) ((edge_tells l p).0 on) (Err e) f' (subst (λ (v : Result (Option Region) E). Called g f (p, tt) v f') is call)).0

  pub ends : (place p : ℕ) (first f : F) → edge l place ≡ true → Passed place first f (p + 1) → length l ≤ p → (at : ℕ → Option Region) (fails : E → Bool) → FindsAs g l at fails first → None ≡ found_from l at place
  ends place p first f from so ge at fails answers =
      sym (cond-true (edge l place) (earliest_from l at place) None from ∙ (so.found at fails answers).1 ∙ seek_past (at_edges l at) (length l) p ge)
