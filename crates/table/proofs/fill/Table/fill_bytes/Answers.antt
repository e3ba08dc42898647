use Rattle.ways.proofs.Refused.{not_legal}
use Rattle.table.proofs.fill.Table.fill_bytes.Goals as goal

pub returns-in_ok-vec-in-Err-clause-rows : goal.returns-in_ok-vec-in-Err-clause-rows
returns-in_ok-vec-in-Err-clause-rows c legal = absurd (not_legal c.args.expression.now c.in-Err.field-0.at c.in-Err.ensures legal)
