use Rattle.std.proofs.Common.{refl}
use Rattle.preference.proofs.Only.{only}
use Rattle.preference.proofs.only_one_answer_is_told.Goals as goal

pub returns : goal.returns
returns c = record { yes = refl; only = only }
