use Rattle.table.proofs.Walks.{goes_many, goes_some}
use Rattle.table.proofs.cell.Rows.take.Goals as goal

pub returns-in-Many-default-clause-goes : goal.returns-in-Many-default-clause-goes
returns-in-Many-default-clause-goes c = goes_many c.args.piece.now c.args.times c.args.from.now c.args.self.now c.most.result.place c.in-Many-default.is-0 c.most.ensures.goes

pub returns-in-Some-Some-clause-goes : goal.returns-in-Some-Some-clause-goes
returns-in-Some-Some-clause-goes c =
    goes_some c.args.piece.now c.args.times c.args.from.now c.args.self.now c.most-in-Some-Some.result.place c.in-Some-Some.next c.in-Some-Some.is-0 c.in-Some-Some.ensures.steps c.in-Some-Some.ensures.on.0
    c.most-in-Some-Some.ensures.goes
