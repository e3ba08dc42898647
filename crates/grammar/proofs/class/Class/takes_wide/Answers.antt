use Rattle.std.proofs.Common.{refl}
use Rattle.grammar.proofs.Listed.{tests_wide}
use Rattle.grammar.proofs.class.Class.takes_wide.Goals as goal

pub returns : goal.returns
returns c =
    let class = c.args.self.now in
    record { computed = refl; tests = λ d high. tests_wide d high class.negated class.members.now }
