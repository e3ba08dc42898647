-- All matches of a line, left to right. Assumes nothing.
use Rattle.std.specs.Prelude.{◌≡◌, ℕ, ◌<◌, ◌≤◌, cond, ◌⊎◌, List, [], ◌∷◌, Some, None, Ok, Err, Option, ◌≢◌, nat_le}
use Rattle.std.specs.Str.{IsCharBoundary}
use Rattle.std.specs.List.{AllByRecursion}
use Rattle.matcher.specs.declared.answer.Span.{Span}
use Rattle.matcher.specs.declared.answer.Region.{Region}
use Rattle.matcher.specs.declared.answer.Illegal.{Illegal as Refusal}
use Rattle.matcher.specs.Answers.{Answer}
use Rattle.matcher.specs.Regions.{group}
use Rattle.matcher.specs.Laws.{Meaning, Within}
use Rattle.matches.specs.declared.step.Match.{Match}
use Rattle.matches.specs.declared.all.Failure.{Failure}
use Rattle.matches.specs.declared.all.Failure.TheVariants.{Illegal, Memory}
use Rattle.matches.specs.Steps.{Step, stepped}

-- the steps of a matcher in a line
abbrev pub steps : Meaning → List ℕ → List ℕ → ℕ → Step
steps g e l p = stepped l (g e l p)

-- the spans are those of the steps, one after the other, from a place on to the last
abbrev pub Chain : (ℕ → Step) → Option ℕ → List Span → Type 0
Chain f None [] = Unit {0}
Chain f None (s ∷ ss) = ⊥
Chain f (Some p) [] = f p ≡ Ok None
Chain f (Some p) (s ∷ ss) = (m : Match) × (f p ≡ Ok (Some m)) × (m.span ≡ s) × Chain f m.next ss

-- t begins where s ends or later, and later than an empty s
pub record Apart (s t : Span) : Type 0 where
  pub ends : s.end ≤ t.begin
  pub moves : s.begin < t.begin

-- spans of the line at edges, in order, that do not overlap
abbrev pub Ordered : List ℕ → List Span → Type 0
Ordered l [] = Unit {0}
Ordered l (s ∷ []) = Within l s
Ordered l (s ∷ (t ∷ ts)) = Within l s × Apart s t × Ordered l (t ∷ ts)

-- q lies inside none of the spans
abbrev pub Outside : ℕ → List Span → Type 0
Outside q ss = AllByRecursion (λ (s : Span). (q ≤ s.begin) ⊎ (s.end ≤ q)) ss

-- the first of the spans that begins at q or later
abbrev pub first_from : ℕ → List Span → Option Span
first_from q [] = None
first_from q (s ∷ ss) = cond (nat_le q s.begin) (Some s) (first_from q ss)

abbrev pub Finds : Answer → Option Span → Type 0
Finds a None = a ≡ Ok None
Finds a (Some s) = (r : Region) × (a ≡ Ok (Some r)) × (group r 0 ≡ Some s)

pub record Matches (g : Meaning) (e l : List ℕ) (ss : List Span) : Type 0 where
  -- each is what the matcher finds where the one before left off, and after the last it finds nothing
  pub chain : Chain (steps g e l) (Some 0) ss
  pub ordered : Ordered l ss
  -- none is missing: from each edge inside no match the matcher finds the next one listed, or nothing if none is left
  pub complete : (q : ℕ) → IsCharBoundary l q → Outside q ss → Finds (g e l q) (first_from q ss)

-- an illegal expression is refused there in every line; of a legal one only memory may fall short
abbrev pub Failed : Meaning → List ℕ → Failure → Type 0
Failed g e (Illegal x) = (l : List ℕ) (p : ℕ) → g e l p ≡ Err x
Failed g e Memory = (l : List ℕ) (p : ℕ) (x : Refusal) → g e l p ≢ Err x
