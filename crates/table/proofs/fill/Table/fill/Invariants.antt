use Rattle.std.proofs.Common.{length, vec_items}
use Rattle.table.proofs.Tables.{Growing}
use Rattle.table.proofs.fill.Table.fill.Given as goal

abbrev pub invariant-loop-place : goal.invariant-loop-place
invariant-loop-place l = Growing l.expression.text.now l.line (vec_items l.places) l.below (vec_items l.rows)

abbrev pub decreases-loop-place : goal.decreases-loop-place
decreases-loop-place l = length (vec_items l.places)
