use Rattle.std.proofs.Common.{◌≡◌, drop}
use Rattle.word.specs.Walks.{fresh, found}
use Rattle.word.proofs.walk.first_word.Given as goal

-- what is left of the expression gives what the whole of it gives
abbrev pub invariant-loop-b : goal.invariant-loop-b
invariant-loop-b l = found l.line l.place l.walk (drop l.b-index l.expression) ≡ found l.line l.place (fresh l.place) l.expression
