use Rattle.std.proofs.Common.{refl}
use Rattle.ways.specs.Meaning.{meaning}
use Rattle.preference.proofs.Telling.{told}
use Rattle.preference.proofs.first_match_is_preferred.Goals as goal

pub returns : goal.returns
returns c = record { yes = refl; tells = λ e l p. told e l p (meaning e l p) refl }
