use Rattle.chars.proofs.Parts.{cut}
use Rattle.chars.proofs.lines.lines.Goals as goal

pub returns-clause-cut : goal.returns-clause-cut
returns-clause-cut c = cut c.args.bytes.now
