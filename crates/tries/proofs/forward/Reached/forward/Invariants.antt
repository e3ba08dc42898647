use Rattle.std.proofs.Common.{length}
use Rattle.tries.proofs.Choices.{Passing}
use Rattle.tries.proofs.forward.Reached.forward.Given as goal

abbrev pub invariant-loop-item : goal.invariant-loop-item
invariant-loop-item g l = Passing l.initial.self.left l.initial.self.here l.self.left l.self.here

abbrev pub decreases-loop-item : goal.decreases-loop-item
decreases-loop-item g l = length l.self.left.rest.now
