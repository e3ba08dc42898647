use Rattle.std.proofs.Common.{refl}
use lib.Utf8.{encode}
use Rattle.std.specs.Str.{chars}
use Rattle.word_examples.proofs.worked_examples_stand.Goals as goal

pub returns : goal.returns
unfolding chars encode
returns c = record {
  yes = refl;
  places = (refl, refl, refl, refl, refl, refl, refl, refl, refl, refl, refl, refl, refl);
  answers = (refl, refl, refl, refl, refl, refl);
}
