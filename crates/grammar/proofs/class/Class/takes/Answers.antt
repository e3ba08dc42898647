use Rattle.std.proofs.Common.{◌∙◌}
use Rattle.grammar.proofs.Listed.{differs, tests}
use Rattle.grammar.proofs.class.Class.takes.Goals as goal

pub returns : goal.returns
returns c =
    let class = c.args.self.now in
    let bytes = class.members.now in
    let is = differs c.args.c class.negated c.lists.result bytes c.lists.ensures in
    record { computed = is; tests = λ turn m ms h. is ∙ tests c.args.c class.negated bytes turn m ms h }
