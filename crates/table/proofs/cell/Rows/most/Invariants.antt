use Rattle.std.proofs.Common.{◌-◌, length}
use Rattle.table.proofs.Walks.{Mosts}
use Rattle.table.proofs.cell.Rows.most.Given as goal

abbrev pub invariant-loop-next : goal.invariant-loop-next
invariant-loop-next l = Mosts l.piece l.from l.self l.end

abbrev pub decreases-loop-next : goal.decreases-loop-next
decreases-loop-next l = length l.end.line.now - l.end.place
