use Rattle.std.proofs.Common.{None, ap, ◌∙◌, arith}
use Rattle.std.specs.Option.{option_flatten, option_copied}
use Rattle.chars.proofs.Table.{table_right, flat}
use Rattle.chars.proofs.sets.sort_of.Goals as goal

pub returns : goal.returns
returns c = c.flatten.ensures ∙ ap option_flatten c.copied.ensures ∙ flat (option_copied c.get.result) ∙ c.get.ensures.lookup.4 (omega arith) None ∙ table_right c.args.b
