use Rattle.std.proofs.Common.{sym, ◌∙◌, arith}
use Rattle.grammar.proofs.Ends.{past_backslash, past_other, past_next, no_longer}
use Rattle.grammar.proofs.class.after_class.Goals as goal

pub loop-c-preserved-in-92 : goal.loop-c-preserved-in-92
loop-c-preserved-in-92 c =
    let from = c.in-Some.ensures.steps.0 in
    let past = past_next c.next-in-92.result c.next.new.self c.next-in-92.new.self c.next-in-92.ensures.steps.0 in
    let same = sym past.0 ∙ sym (past_backslash _ _ _ from c.in-92.is) ∙ c.loop-c.invariant.2 in
    (tt, tt, same, omega (arith, past.1, no_longer _ _ _ from, c.loop-c.invariant.3))

pub loop-c-preserved : goal.loop-c-preserved
loop-c-preserved c =
    let from = c.in-Some.ensures.steps.0 in
    let same = sym (past_other _ _ _ from (λ is. omega arith) (λ is. omega arith)) ∙ c.loop-c.invariant.2 in
    (tt, tt, same, omega (arith, no_longer _ _ _ from, c.loop-c.invariant.3))
