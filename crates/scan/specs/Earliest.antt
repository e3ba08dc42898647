-- The meaning of a matcher that tries one place at a time. Assumes nothing.
use Rattle.std.specs.Prelude.{◌≡◌, ℕ, zero, suc, ◌-◌, cond, ◌&&◌, List, length, Some, None, Ok, Err, Option}
use Rattle.chars.specs.Edges.{text, edge}
use Rattle.matcher.specs.declared.answer.Span.{Span}
use Rattle.matcher.specs.declared.answer.Region.{Region}
use Rattle.matcher.specs.Answers.{Answer, illegal}
use Rattle.matcher.specs.Regions.{group, span}
use Rattle.matcher.specs.Laws.{Meaning, Within}

abbrev pub or_else : Option Region → Option Region → Option Region
or_else (Some r) o = Some r
or_else None o = o

-- the first of the n places from p on at which f gives a region
abbrev pub seek : (ℕ → Option Region) → ℕ → ℕ → Option Region
seek f zero p = None
seek f (suc n) p = or_else (f p) (seek f n (suc p))

-- f, at the edges of the line alone
abbrev pub at_edges : List ℕ → (ℕ → Option Region) → ℕ → Option Region
at_edges l f p = cond (edge l p) (f p) None

-- the first edge from p through the line's end at which f gives a region
abbrev pub earliest_from : List ℕ → (ℕ → Option Region) → ℕ → Option Region
earliest_from l f p = seek (at_edges l f) (suc (length l) - p) p

-- the same, and nothing off the edges
abbrev pub found_from : List ℕ → (ℕ → Option Region) → ℕ → Option Region
found_from l f p = cond (edge l p) (earliest_from l f p) None

abbrev pub answer : Option Region → Answer
answer o = Ok o

abbrev pub unless_refused : Option ℕ → Answer → Answer
unless_refused (Some k) a = Err (illegal k)
unless_refused None a = a

-- a refusal comes before everything else; then nothing is found off the edges of a UTF-8 line
abbrev pub earliest : (List ℕ → Option ℕ) → (List ℕ → List ℕ → ℕ → Option Region) → Meaning
earliest refusal at e l p =
    unless_refused (refusal e) (cond (text l && edge l p) (answer (earliest_from l (at e l) p)) (Ok None))

-- what an attempt at p may give: group 0 begins there, and each group lies in the line, at edges
pub record Placed (l : List ℕ) (p : ℕ) (r : Region) : Type 0 where
  pub end : ℕ
  pub whole : group r 0 ≡ Some (span p end)
  pub within : (k : ℕ) (s : Span) → group r k ≡ Some s → Within l s
