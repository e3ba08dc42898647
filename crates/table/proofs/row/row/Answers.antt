use Rattle.std.proofs.Common.{◌∙◌, arith}
use Rattle.std.proofs.lemmas.List.{length-set}
use Rattle.table.proofs.Rows.{filling_more}
use Rattle.table.proofs.row.row.Goals as goal

pub loop-place-preserved-in-Some : goal.loop-place-preserved-in-Some
loop-place-preserved-in-Some c = record {
  long = length-set _ _ _ ∙ c.loop-place.invariant.long;
  known = filling_more c.loop-place.invariant.known c.cell-set.result (omega arith) (omega (arith, c.in_ok-here.ensures.len, c.loop-place.invariant.long)) (rw (← c.in-Some.ensures.here.0, ← c.in-Some.ensures.here.1, ← c.deref.ensures.value) c.cell-set.ensures);
}
