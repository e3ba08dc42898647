use Rattle.table.proofs.Cells.{or_then, or_else, many_on, some_on}
use Rattle.table.proofs.cell.Rows.taken.Goals as goal

pub returns-then-is_set-2 : goal.returns-then-is_set-2
returns-then-is_set-2 c =
    many_on c.args.piece.now c.args.times c.args.self.now c.args.from.now c.in-Many-Some.next c.in-Many-Some.ensures.steps c.in-Many-Some.ensures.on _ c.in-Many-Some.is-0
    (or_then _ _ _ c.is_set-in-Many-Some.ensures c.if-is_set-2.true)

pub returns-else-is_set-2 : goal.returns-else-is_set-2
returns-else-is_set-2 c =
    many_on c.args.piece.now c.args.times c.args.self.now c.args.from.now c.in-Many-Some.next c.in-Many-Some.ensures.steps c.in-Many-Some.ensures.on _ c.in-Many-Some.is-0
    (or_else _ _ _ _ c.is_set-in-Many-Some.ensures c.if-is_set-2.false c.is_set-else-is_set-2.ensures)

pub returns-then-is_set-3 : goal.returns-then-is_set-3
returns-then-is_set-3 c =
    some_on c.args.piece.now c.args.times c.args.self.now c.args.from.now c.in-Some-Some.next c.in-Some-Some.ensures.steps c.in-Some-Some.ensures.on _ c.in-Some-Some.is-0
    (or_then _ _ _ c.is_set-in-Some-Some.ensures c.if-is_set-3.true)

pub returns-else-is_set-3 : goal.returns-else-is_set-3
returns-else-is_set-3 c =
    some_on c.args.piece.now c.args.times c.args.self.now c.args.from.now c.in-Some-Some.next c.in-Some-Some.ensures.steps c.in-Some-Some.ensures.on _ c.in-Some-Some.is-0
    (or_else _ _ _ _ c.is_set-in-Some-Some.ensures c.if-is_set-3.false c.is_set-else-is_set-3.ensures)
