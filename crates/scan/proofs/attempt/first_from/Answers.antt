use Rattle.std.proofs.Common.{sym, ◌∙◌, refl, arith}
use Rattle.scan.proofs.Turns.{may_try, passes_by, passes, finds, breaks, ends}
use Rattle.scan.proofs.attempt.first_from.Goals.{then-is_edge+in-Ok-None, else-is_edge, else-loop-here-test, then-loop-here-test+else-here-here-end}
use Rattle.scan.proofs.attempt.first_from.Goals as goal

pub loop-here-init : goal.loop-here-init
loop-here-init g c = record { takes = c.requires; found = λ at fails answers. (answers, refl) }

pub attempt-requires : goal.attempt-requires
attempt-requires g c = may_try g.F.FnMut c.args.line.now c.loop-here.attempt c.loop-here.here c.loop-here.invariant.takes (c.is_edge-in-loop-here.ensures.decides.0 c.if-is_edge.true)

pub returns-in-Ok-Some : goal.returns-in-Ok-Some
returns-in-Ok-Some g c =
    finds g.F.FnMut c.args.line.now c.args.place c.loop-here.here c.args.attempt c.loop-here.attempt c.loop-here.invariant c.loop-here-test.true
    (sym c.is_edge.ensures.value ∙ c.if-not-is_edge.false) (sym c.is_edge-in-loop-here.ensures.value ∙ c.if-is_edge.true)
    c.attempt.new.self c.attempt.result c.in-Ok-Some.field-0 c.in-Ok-Some.region c.attempt.ensures c.in-Ok-Some.is c.in-Ok-Some.field-0-is

pub returns-in-Err : goal.returns-in-Err
returns-in-Err g c =
    breaks g.F.FnMut c.args.line.now c.args.place c.loop-here.here c.args.attempt c.loop-here.attempt c.loop-here.invariant c.loop-here-test.true
    (sym c.is_edge-in-loop-here.ensures.value ∙ c.if-is_edge.true) c.attempt.new.self c.attempt.result c.in-Err.failure c.attempt.ensures c.in-Err.is

pub loop-here-preserved : goal.loop-here-preserved
loop-here-preserved g c =
    elim c.if-is_edge.branch [
      | then-is_edge+in-Ok-None w ↦
          passes g.F.FnMut c.args.line.now c.args.place c.loop-here.here c.args.attempt c.loop-here.attempt c.loop-here.invariant c.loop-here-test.true
          (sym c.is_edge-in-loop-here.ensures.value ∙ w.if-is_edge.true) w.attempt.new.self w.attempt.result w.in-Ok-None.field-0 w.attempt.ensures w.in-Ok-None.is w.in-Ok-None.field-0-is _ w.attempt-is
      | else-is_edge w ↦
          passes_by g.F.FnMut c.args.line.now c.args.place c.loop-here.here c.args.attempt c.loop-here.attempt c.loop-here.invariant c.loop-here-test.true
          (sym c.is_edge-in-loop-here.ensures.value ∙ w.if-is_edge.false) _ w.attempt-is
    ]

pub returns : goal.returns
returns g c =
    let line = c.args.line.now in
    let from = sym c.is_edge.ensures.value ∙ c.if-not-is_edge.false in
    let first = c.is_edge.ensures.decides.0 c.if-not-is_edge.false in
    elim c.loop-here-test.branch [
      | else-loop-here-test w ↦ absurd (let within = first.0 in omega arith)
      | then-loop-here-test+else-here-here-end w ↦
          elim w.if-is_edge.branch [
            | then-is_edge+in-Ok-None w' ↦
                ends g.F.FnMut line c.args.place c.loop-here.here c.args.attempt _ from
                (passes g.F.FnMut line c.args.place c.loop-here.here c.args.attempt c.loop-here.attempt c.loop-here.invariant w.loop-here-test.true
                (sym w.is_edge-in-loop-here.ensures.value ∙ w'.if-is_edge.true) w'.attempt.new.self w'.attempt.result w'.in-Ok-None.field-0 w'.attempt.ensures w'.in-Ok-None.is w'.in-Ok-None.field-0-is _ w'.attempt-is) (omega arith)
            | else-is_edge w' ↦
                ends g.F.FnMut line c.args.place c.loop-here.here c.args.attempt _ from
                (passes_by g.F.FnMut line c.args.place c.loop-here.here c.args.attempt c.loop-here.attempt c.loop-here.invariant w.loop-here-test.true
                (sym w.is_edge-in-loop-here.ensures.value ∙ w'.if-is_edge.false) _ w'.attempt-is) (omega arith)
          ]
    ]
