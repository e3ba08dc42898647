use Rattle.std.proofs.Common.{length, ◌-◌, ap, ◌∙◌}
use Rattle.grammar.specs.Places.{item_of}
use Rattle.grammar.proofs.Places.{no_longer, onward, rest_from, reads_at}
use Rattle.grammar.proofs.items.item_at.Goals as goal

pub overflow_sub-result : goal.overflow_sub-result
overflow_sub-result c =
    no_longer c.args.expression.now c.args.i c.first_of.result.1.now (c.first_of.ensures.rest ∙ ap (λ l. (item_of l).1) c.bytes_from.ensures)

pub returns-clause-onward : goal.returns-clause-onward
returns-clause-onward c =
    onward c.args.expression.now c.args.i c.first_of.result.1.now (c.first_of.ensures.rest ∙ ap (λ l. (item_of l).1) c.bytes_from.ensures)

pub returns-clause-rest : goal.returns-clause-rest
returns-clause-rest c =
    let is = c.first_of.ensures.rest ∙ ap (λ l. (item_of l).1) c.bytes_from.ensures in
    rest_from c.args.expression.now c.args.i c.first_of.result.1.now is ∙ is

pub returns-clause-reads : goal.returns-clause-reads
returns-clause-reads c =
    let e = c.args.expression.now in
    let left = c.first_of.result.1.now in
    let is = c.first_of.ensures.rest ∙ ap (λ l. (item_of l).1) c.bytes_from.ensures in
    reads_at e c.args.i (length e - length left) c.first_of.result.0
    (c.first_of.ensures.item ∙ ap (λ l. (item_of l).0) c.bytes_from.ensures) (rest_from e c.args.i left is ∙ is)
