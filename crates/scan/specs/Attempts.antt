-- Attempts at the edges of a line, one after the other, by calls of a closure f. Assumes nothing.
use Rattle.std.specs.Prelude.{◌≡◌, ℕ, Bool, true, List, [], ◌∷◌, Result, Option, MatchResult}
use Rattle.std.specs.Fn.{Mut, Called, Takes}
use Rattle.std.specs.Str.{IsCharBoundary}
use Rattle.matcher.specs.declared.answer.Region.{Region}

module _ {F E : Type 0} (g : Mut F (ℕ × Unit {0}) (Result (Option Region) E)) (l : List ℕ) where
  -- f may be called at each of the places in turn, if they are edges of the line l
  abbrev pub TakesEach : F → List ℕ → Type 0
  TakesEach f [] = Unit {0}
  TakesEach f (p ∷ ps) = IsCharBoundary l p → Takes g f (p, tt) × ((r : Result (Option Region) E) (f' : F) → Called g f (p, tt) r f' → TakesEach f' ps)

  -- f may be called at edges, again and again
  pub record TakesEdges (f : F) : Type 0 where
    pub each : (ps : List ℕ) → TakesEach f ps

  module _ (at : ℕ → Option Region) (fails : E → Bool) where
    -- what such calls find is what `at` says, and an error that they give is one of those that `fails` names
    abbrev pub FindsEach : F → List ℕ → Type 0
    FindsEach f [] = Unit {0}
    FindsEach f (p ∷ ps) = IsCharBoundary l p → (r : Result (Option Region) E) (f' : F) → Called g f (p, tt) r f' → MatchResult r (λ o. o ≡ at p) (λ e. fails e ≡ true) × FindsEach f' ps

    pub record FindsAs (f : F) : Type 0 where
      pub each : (ps : List ℕ) → FindsEach f ps
