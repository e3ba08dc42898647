-- One step from match to match. Assumes nothing.
use Rattle.std.specs.Prelude.{◌≡◌, ℕ, zero, suc, ◌-◌, ◌≤◌, cond, List, length, Some, None, Ok, Err, Option, Result, ◌==◌, ◌≢◌}
use Rattle.std.specs.Str.{IsCharBoundary}
use Rattle.chars.specs.Edges.{edge, NextEdge}
use Rattle.matcher.specs.declared.answer.Span.{Span}
use Rattle.matcher.specs.declared.answer.Region.{Region}
use Rattle.matcher.specs.declared.answer.Illegal.{Illegal}
use Rattle.matcher.specs.Answers.{Answer}
use Rattle.matcher.specs.Regions.{group}
use Rattle.matcher.specs.Laws.{Within}
use Rattle.matches.specs.declared.step.Match.{Match}

-- a match, or none from the place on; an error where the expression is not legal
abbrev pub Step : Type 0
Step = Result (Option Match) Illegal

-- the first edge among the n places from p on
abbrev pub edge_from : List ℕ → ℕ → ℕ → Option ℕ
edge_from l zero p = None
edge_from l (suc n) p = cond (edge l p) (Some p) (edge_from l n (suc p))

-- where the search goes on after a match: at its end, and after an empty one at the next edge
abbrev pub go_on : List ℕ → Span → Option ℕ
go_on l s = cond (s.begin == s.end) (edge_from l (length l - s.end) (suc s.end)) (Some s.end)

-- the same, in words
pub record GoesOn (l : List ℕ) (s : Span) (next : Option ℕ) : Type 0 where
  pub filled : (s.begin ≢ s.end) → next ≡ Some s.end
  pub empty : s.begin ≡ s.end → NextEdge l s.end next

-- a region without group 0 is found by no lawful matcher
abbrev pub taken : List ℕ → Region → Option Span → Step
taken l r None = Ok None
taken l r (Some s) = Ok (Some (record { region = r; span = s; next = go_on l s }))

-- the step that an answer leads to
abbrev pub stepped : List ℕ → Answer → Step
stepped l (Ok None) = Ok None
stepped l (Ok (Some r)) = taken l r (group r 0)
stepped l (Err x) = Err x

-- a match found from p: at or after p, which is an edge, and at edges of the line
pub record Further (l : List ℕ) (p : ℕ) (m : Match) : Type 0 where
  pub from : IsCharBoundary l p
  pub after : p ≤ m.span.begin
  pub within : Within l m.span
  pub onward : GoesOn l m.span m.next

abbrev pub Onward : List ℕ → ℕ → Step → Type 0
Onward l p (Ok None) = Unit {0}
Onward l p (Ok (Some m)) = Further l p m
Onward l p (Err x) = Unit {0}
