use Rattle.std.proofs.Common.{length, vec_items}
use Rattle.table.proofs.Places.{Standing}
use Rattle.table.proofs.fill.places.Given as goal

abbrev pub invariant-loop-others : goal.invariant-loop-others
invariant-loop-others l = Standing l.expression.text.now (vec_items l.places) l.left.rest.now

abbrev pub decreases-loop-others : goal.decreases-loop-others
decreases-loop-others l = length l.left.rest.now
