use Rattle.std.proofs.Common.{◌≡◌, false, length}
use Rattle.grammar.specs.Items.{shut_of}
use Rattle.grammar.proofs.items.past_class.Given as goal

-- what is left tells what follows the class
abbrev pub invariant-loop-left : goal.invariant-loop-left
invariant-loop-left l = shut_of false l.left ≡ shut_of false l.members

abbrev pub decreases-loop-left : goal.decreases-loop-left
decreases-loop-left l = length l.left
