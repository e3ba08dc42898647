use Rattle.scan.proofs.Turns.{Passed}
use Rattle.scan.proofs.attempt.first_from.Given as goal

abbrev pub invariant-loop-here : goal.invariant-loop-here
invariant-loop-here g l = Passed g.F.FnMut l.line l.place l.fn.attempt l.attempt l.here
