use Rattle.std.proofs.Common.{◌≡◌, ◌+◌, drop, option_map}
use Rattle.matcher.specs.Refusals.{refuses}
use Rattle.matcher.proofs.reading.check.Given as goal

-- what is left is refused where the whole is, as many bytes on as were read
abbrev pub invariant-loop-at : goal.invariant-loop-at
invariant-loop-at g l =
    option_map (λ n. l.at + n) (refuses g.R.Reader.next g.R.Reader.done l.state (drop l.at l.expression)) ≡ refuses g.R.Reader.next g.R.Reader.done l.initial.state l.expression
