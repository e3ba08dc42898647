use Rattle.std.proofs.Common.{◌+◌, drop, sym, ap, ◌∙◌}
use Rattle.word.specs.declared.walk.Walk.{Walk}
use Rattle.word.specs.Walks.{fresh, or_end, found}
use Rattle.word.proofs.Walking.{at_bar, at_byte, at_end_lem}
use Rattle.word.proofs.walk.first_word.Goals as goal
use Rattle.word.proofs.walk.first_word.Goals.{then-divides+in_default, else-divides}

pub returns-in-Some : goal.returns-in-Some
returns-in-Some c =
    let e = c.args.expression.now in
    let on = at_bar c.args.line.now c.args.place e c.loop-b.walk c.loop-b.b-index c.loop-b-test.true (sym c.divides.ensures ∙ c.if-divides.true) in
    ap (λ o. or_end o (found c.args.line.now c.args.place (fresh c.args.place) (drop (c.loop-b.b-index + 1) e))) (sym (sym c.end.ensures ∙ c.in-Some.is)) ∙ sym on ∙ c.loop-b.invariant

pub loop-b-preserved : goal.loop-b-preserved
loop-b-preserved c =
    let l = c.args.line.now in
    let p = c.args.place in
    let e = c.args.expression.now in
    let i = c.loop-b.b-index in
    elim c.if-divides.branch [
      | then-divides+in_default w ↦
          let on = at_bar l p e c.loop-b.walk i c.loop-b-test.true (sym c.divides.ensures ∙ w.if-divides.true) in
          ap (λ (x : Walk). found l p x (drop (i + 1) e)) (w.walk-is ∙ w.begin-walk-then-divides.ensures)
          ∙ sym (on ∙ ap (λ o. or_end o (found l p (fresh p) (drop (i + 1) e))) (sym w.end.ensures ∙ w.in_default.is)) ∙ c.loop-b.invariant
      | else-divides w ↦
          let on = at_byte l p e c.loop-b.walk i c.loop-b-test.true (sym c.divides.ensures ∙ w.if-divides.false) in
          ap (λ (x : Walk). found l p x (drop (i + 1) e)) (w.walk-is ∙ w.step-walk.ensures) ∙ sym on ∙ c.loop-b.invariant
    ]

pub returns : goal.returns
returns c = c.end-2.ensures ∙ sym (at_end_lem c.args.line.now c.args.place c.args.expression.now c.loop-b.walk c.loop-b.b-index c.loop-b-test.false) ∙ c.loop-b.invariant
