use Rattle.std.proofs.Common.{refl}
use Rattle.cases.proofs.Parts.{parted}
use Rattle.cases.proofs.fields.Fields.new.Goals as goal

pub returns : goal.returns
returns c = record { all = refl; parted = parted c.args.bytes.now }
