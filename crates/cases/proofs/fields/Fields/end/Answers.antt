use Rattle.std.proofs.Common.{refl}
use Rattle.cases.proofs.Parts.{filled}
use Rattle.cases.proofs.fields.Fields.end.Goals as goal

pub returns-in-Some : goal.returns-in-Some
returns-in-Some c = (refl, rw c.in-Some.is (filled c.in-Some.field-0.now))
