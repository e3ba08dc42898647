-- For callers of `first_from`: what each attempt keeps, over all of them. Assumes nothing.
use Rattle.std.proofs.Common.{◌≡◌, ℕ, Bool, true, false, List, [], ◌∷◌, Result, Ok, Option, MatchResult, sym, refl, subst}
use Rattle.std.specs.Fn.{Mut, Called, Takes}
use Rattle.std.specs.Str.{IsCharBoundary}
use Rattle.matcher.specs.declared.answer.Region.{Region}
use Rattle.scan.specs.Attempts.{TakesEach, TakesEdges, FindsEach, FindsAs}

-- I is what every call keeps of the closure
module _ {F E : Type 0} (g : Mut F (ℕ × Unit {0}) (Result (Option Region) E)) (l : List ℕ) (I : F → Type 0) where
  module _ (takes : (f : F) (p : ℕ) → I f → IsCharBoundary l p → Takes g f (p, tt))
      (keeps : (f : F) (p : ℕ) → I f → IsCharBoundary l p → (r : Result (Option Region) E) (f' : F) → Called g f (p, tt) r f' → I f')
    where
      takes_each : (f : F) → I f → (ps : List ℕ) → TakesEach g l f ps
      takes_each f i [] = tt
      takes_each f i (p ∷ ps) = λ b. (takes f p i b, λ r f' call. takes_each f' (keeps f p i b r f' call) ps)

      pub takes_by : (f : F) → I f → TakesEdges g l f
      takes_by f i = record { each = takes_each f i }

  module _ (at : ℕ → Option Region) (fails : E → Bool)
      (says : (f : F) (p : ℕ) → I f → IsCharBoundary l p → (r : Result (Option Region) E) (f' : F) → Called g f (p, tt) r f' → MatchResult r (λ o. o ≡ at p) (λ e. fails e ≡ true) × I f')
    where
      finds_each : (f : F) → I f → (ps : List ℕ) → FindsEach g l at fails f ps
      finds_each f i [] = tt
      finds_each f i (p ∷ ps) = λ b r f' call. let h = says f p i b r f' call in (h.0, finds_each f' h.1 ps)

      pub finds_by : (f : F) → I f → FindsAs g l at fails f
      finds_by f i = record { each = finds_each f i }

-- a closure that each call leaves as it was
module _ {F E : Type 0} (g : Mut F (ℕ × Unit {0}) (Result (Option Region) E)) (l : List ℕ) (f : F) where
  pub takes_same : ((p : ℕ) → IsCharBoundary l p → Takes g f (p, tt)) → ((p : ℕ) (r : Result (Option Region) E) (f' : F) → Called g f (p, tt) r f' → f' ≡ f) → TakesEdges g l f
  takes_same takes keeps =
      takes_by g l (λ s. s ≡ f) (λ s p i b. subst (λ (s : F). Takes g s (p, tt)) (sym i) (takes p b)) (λ s p i b r f' call. keeps p r f' (subst (λ (s : F). Called g s (p, tt) r f') i call)) f refl

  -- and that never fails
  pub finds_same : (at : ℕ → Option Region) → ((p : ℕ) (r : Result (Option Region) E) (f' : F) → Called g f (p, tt) r f' → (f' ≡ f) × (r ≡ Ok (at p))) → FindsAs g l at (λ _. false) f
  finds_same at says =
      finds_by g l (λ s. s ≡ f) at (λ _. false)
      (λ s p i b r f' call.
      let h = says p r f' (subst (λ (s : F). Called g s (p, tt) r f') i call) in
      (subst (λ (v : Result (Option Region) E). MatchResult v (λ o. o ≡ at p) (λ e. false ≡ true)) (sym h.1) refl, h.0)) f refl
