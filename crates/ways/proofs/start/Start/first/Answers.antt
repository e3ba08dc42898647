use Rattle.std.proofs.Common.{ℕ, sym, ap, ◌∙◌, subst, drop}
use Rattle.grammar.specs.Grammar as g
use Rattle.grammar.specs.Parse.{items, Spelled}
use Rattle.grammar.proofs.Judging.{spelled}
use Rattle.ways.proofs.start.Start.first.Goals as goal

pub returns-clause-begins : goal.returns-clause-begins
returns-clause-begins c =
    let e = c.args.expression.now in
    let is = items e.text.now in
    let s = subst (Spelled e.text.now) e.legal (spelled e.text.now) in
    let begun = c.at_begin.ensures in
    record {
      good = subst (λ (n : ℕ). g.Good n 0 is) (sym begun.2) s.0;
      written = s.1 ∙ sym (ap (λ i. i.rest.now) begun.0 ∙ c.items.ensures);
      rest = ap (λ (n : ℕ). drop n is) (sym begun.1);
    }
