use Rattle.std.proofs.Common.{refl}
use Rattle.preference.proofs.Placing.{expression_lawful}
use Rattle.preference.proofs.expressions_are_lawful.Goals as goal

pub returns : goal.returns
returns c = record { yes = refl; laws = expression_lawful }
