use Rattle.std.proofs.Common.{◌≡◌, ◌+◌, ◌-◌, ◌*◌, length}
use Rattle.tries.proofs.Choices.{Chosen}
use Rattle.tries.proofs.run.Tries.+run_run_bracket_run_most.Given as goal

-- what is left of the expression comes first, and what is left of the line second
abbrev pub decreases-run : goal.decreases-run
decreases-run g l = length l.items.now.rest.now * (length l.from.now.line.now + 3) + (length l.from.now.line.now + 2)

abbrev pub decreases-run_most : goal.decreases-run_most
decreases-run_most g l =
    (length l.items.now.rest.now + 1) * (length l.from.now.line.now + 3) + (length l.from.now.line.now - l.from.now.place)

abbrev pub decreases-run_bracket : goal.decreases-run_bracket
decreases-run_bracket g l = (length l.items.now.rest.now + 1) * (length l.from.now.line.now + 3) + (length l.from.now.line.now + 1)

abbrev pub invariant-run-choices : goal.invariant-run-choices
invariant-run-choices g l =
    Chosen l.initial.self.brackets.items l.items l.from l.reached.left l.reached.here × (l.self.brackets.items ≡ l.initial.self.brackets.items) × (l.self.depth ≡ l.initial.self.depth)

abbrev pub decreases-run-choices : goal.decreases-run-choices
decreases-run-choices g l = length l.reached.left.rest.now
