use Rattle.std.proofs.Common.{refl}
use Rattle.preference.proofs.Dividing.{divided}
use Rattle.preference.proofs.bars_divide_alternatives.Goals as goal

pub returns : goal.returns
returns c = record { yes = refl; divided = divided }
