-- What is found at one place of a line. Assumes nothing.
use Rattle.std.specs.Prelude.{◌≡◌, ℕ, List, Option}
use Rattle.std.specs.Str.{IsCharBoundary}
use Rattle.matcher.specs.declared.answer.Region.{Region}
use Rattle.scan.specs.Earliest.{found_from}
use Rattle.grammar.specs.Parse.{items}
use Rattle.ways.specs.declared.start.Alternatives.{Alternatives}
use Rattle.ways.specs.Meaning.{alternatives, at}
use Rattle.ways.specs.Starts.{Left}

-- r is the match at the place p of the line l, of each expression that is served and whose alternatives are all left in a
abbrev pub IsMatchAt : (List ℕ → List ℕ → Type 0) → Alternatives → List ℕ → ℕ → Option Region → Type 0
IsMatchAt Serves a l p r = (e : List ℕ) → Serves e l → Left e 0 a (alternatives (items e)) → r ≡ at e l p

-- the same, if p is an edge
abbrev pub IsTriedAt : (List ℕ → List ℕ → Type 0) → Alternatives → List ℕ → ℕ → Option Region → Type 0
IsTriedAt Serves a l p r = IsCharBoundary l p → IsMatchAt Serves a l p r

-- r is the first match from the place p on
abbrev pub IsFoundFrom : (List ℕ → List ℕ → Type 0) → Alternatives → List ℕ → ℕ → Option Region → Type 0
IsFoundFrom Serves a l p r = (e : List ℕ) → Serves e l → Left e 0 a (alternatives (items e)) → r ≡ found_from l (at e l) p
