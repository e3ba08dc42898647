use Rattle.std.proofs.Common.{rules}
use Rattle.std.specs.Str.{IsUtf8}
use Rattle.grammar.proofs.Text.{legal_text}
use Rattle.grammar.proofs.expression.Expression.new.Goals as goal

-- a legal expression is UTF-8
pub unwrap-text-requires : goal.unwrap-text-requires
unwrap-text-requires c = let utf8 : IsUtf8 c.args.bytes.now = legal_text 0 0 c.args.bytes.now c.in_ok-check.ensures.right in search rules
