use Rattle.std.proofs.Common.{◌≡◌, ◌≤◌, false, length}
use Rattle.grammar.specs.Items.{shut_of}
use Rattle.grammar.proofs.class.after_class.Given as goal

-- what is left tells what follows the class
abbrev pub invariant-loop-c : goal.invariant-loop-c
invariant-loop-c l =
    (goal.iterator-loop-c).can_next l.chars × (goal.iterator-loop-c).is_finite l.chars
    × (shut_of false l.chars.rest.now ≡ shut_of false l.members) × (length l.chars.rest.now ≤ length l.members)
