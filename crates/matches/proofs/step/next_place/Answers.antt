use Rattle.std.proofs.Common.{suc, ◌-◌, eqb, length, Some, sym, ◌∙◌, eq-eqb}
use Rattle.std.proofs.lemmas.Bool.{cond-true}
use Rattle.matches.specs.Steps.{edge_from}
use Rattle.matches.proofs.Edges.{next_edge}
use Rattle.matches.proofs.step.next_place.Goals as goal

pub returns-then-span : goal.returns-then-span
returns-then-span c =
    let line = c.args.line.now in
    let begin = c.args.span.begin in
    let end = c.args.span.end in
    record {
      value = next_edge line end c.next_edge.result c.next_edge.ensures ∙ sym (cond-true (eqb begin end) (edge_from line (length line - end) (suc end)) (Some end) (eq-eqb begin end c.if-span.true));
      goes_on = record { filled = λ apart. absurd (apart c.if-span.true); empty = λ _. c.next_edge.ensures };
    }
