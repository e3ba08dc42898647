use Rattle.std.proofs.Common.{sym, ◌∙◌}
use Rattle.table.proofs.Cells.{or_then, or_else}
use Rattle.table.proofs.Walks.{mosts_more, mosts_end, mosts_stop}
use Rattle.table.proofs.cell.Rows.most.Goals as goal
use Rattle.table.proofs.cell.Rows.most.Goals.{else-not-is_set-via-then-not-is_set+else-not-is_set-2, else-not-is_set-via-else-not-is_set}

pub returns-then-not-is_set-2-clause-goes : goal.returns-then-not-is_set-2-clause-goes
returns-then-not-is_set-2-clause-goes c =
    mosts_end c.loop-next.invariant c.in-Some.next c.in-Some.ensures.steps c.in-Some.ensures.on.0
    (sym (or_else _ _ _ _ c.is_set.ensures c.if-not-is_set.true c.is_set-then-not-is_set.ensures) ∙ c.if-not-is_set-2.true)

pub loop-next-preserved : goal.loop-next-preserved
loop-next-preserved c =
    mosts_more c.loop-next.invariant c.in-Some.next c.in-Some.ensures.steps c.in-Some.ensures.on.0
    (elim c.else-not-is_set.branch [
      | else-not-is_set-via-then-not-is_set+else-not-is_set-2 w ↦
          sym (or_else _ _ _ _ c.is_set.ensures w.if-not-is_set.true w.is_set-then-not-is_set.ensures) ∙ w.if-not-is_set-2.false
      | else-not-is_set-via-else-not-is_set w ↦ sym (or_then _ _ _ c.is_set.ensures w.if-not-is_set.false) ∙ w.if-not-is_set.false
    ])

pub returns-clause-goes : goal.returns-clause-goes
returns-clause-goes c = mosts_stop c.loop-next.invariant c.in_default.ensures.steps
