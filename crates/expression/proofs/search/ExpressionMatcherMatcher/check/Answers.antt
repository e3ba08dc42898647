use Rattle.std.proofs.Common.{sym, ◌∙◌}
use Rattle.scan.proofs.Earliest.{checked_earliest}
use Rattle.grammar.specs.Reader.{refusal}
use Rattle.ways.specs.Meaning.{at}
use Rattle.expression.proofs.search.ExpressionMatcherMatcher.check.Goals as goal

pub returns : goal.returns
returns c = λ l p. c.check.ensures.read ∙ sym (checked_earliest refusal at c.args.expression.now l p)
