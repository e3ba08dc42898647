-- What every matcher promises. Assumes nothing.
use Rattle.std.specs.Prelude.{◌≡◌, ℕ, ◌≤◌, List, Some, None, Ok, Err, IsUtf8}
use Rattle.std.specs.Str.{IsCharBoundary}
use Rattle.matcher.specs.declared.answer.Span.{Span}
use Rattle.matcher.specs.declared.answer.Region.{Region}
use Rattle.matcher.specs.declared.answer.Illegal.{Illegal}
use Rattle.matcher.specs.Answers.{Answer}
use Rattle.matcher.specs.Regions.{group}

-- the answer for an expression, a line and a place
abbrev pub Meaning : Type 0
Meaning = List ℕ → List ℕ → ℕ → Answer

-- a span of the line, at edges; an edge lies within the line
pub record Within (line : List ℕ) (s : Span) : Type 0 where
  pub ordered : s.begin ≤ s.end
  pub begins : IsCharBoundary line s.begin
  pub ends : IsCharBoundary line s.end

-- a region that may be found from a place
pub record Proper (line : List ℕ) (place : ℕ) (r : Region) : Type 0 where
  pub whole : Span
  pub present : group r 0 ≡ Some whole
  pub after : place ≤ whole.begin
  pub within : (k : ℕ) (s : Span) → group r k ≡ Some s → Within line s

pub record Lawful (g : Meaning) : Type 0 where
  -- only in a UTF-8 line from an edge is a region found
  pub inside : (e l : List ℕ) (p : ℕ) (r : Region) → g e l p ≡ Ok (Some r) → IsUtf8 l × IsCharBoundary l p
  -- group 0 is present and begins at or after the place, and each group has its begin and end in order, at edges
  pub proper : (e l : List ℕ) (p : ℕ) (r : Region) → g e l p ≡ Ok (Some r) → Proper l p r
  -- a region found from p that begins at b is found from each edge from p through b
  pub again : (e l : List ℕ) (p q : ℕ) (r : Region) (s : Span) → g e l p ≡ Ok (Some r) → group r 0 ≡ Some s → p ≤ q → q ≤ s.begin → IsCharBoundary l q → g e l q ≡ Ok (Some r)
  -- nothing found from an edge p means nothing from any later edge
  pub never : (e l : List ℕ) (p q : ℕ) → IsUtf8 l → IsCharBoundary l p → g e l p ≡ Ok None → p ≤ q → IsCharBoundary l q → g e l q ≡ Ok None
  -- a refusal and its place depend on the expression alone
  pub refuses : (e l : List ℕ) (p : ℕ) (x : Illegal) → g e l p ≡ Err x → (m : List ℕ) (q : ℕ) → g e m q ≡ Err x

-- the same answers everywhere
abbrev pub Same : Meaning → Meaning → Type 0
Same f g = (e l : List ℕ) (p : ℕ) → f e l p ≡ g e l p
