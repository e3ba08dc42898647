use Rattle.std.proofs.Common.{refl}
use lib.Utf8.{encode}
use Rattle.std.specs.Str.{chars}
use Rattle.preference.proofs.examples.worked_examples_stand.Goals as goal

pub returns : goal.returns
unfolding chars encode
returns c = record {
  yes = refl;
  choices = (refl, refl, refl, refl, refl, refl, refl, refl, refl, refl, refl);
  groups = (refl, refl, refl, refl, refl);
  ends = (refl, refl, refl, refl, refl, refl, refl);
  characters = (refl, refl, refl, refl, refl, refl, refl);
  others = (refl, refl, refl);
}
