use Rattle.std.proofs.Common.{ap, subst}
use Rattle.std.proofs.lemmas.Result.{IfOk-at_ok}
use Rattle.ways.specs.Match.{run}
use Rattle.ways.specs.Matched.{Matches}
use Rattle.ways.specs.Meaning.{leading, region_by}
use Rattle.expression.proofs.Matched.{region_of_match, found_in, passed_in}
use Rattle.expression.proofs.attempts.match_at.Goals as goal

pub returns-in-Ok-Some-clause-found : goal.returns-in-Ok-Some-clause-found
returns-in-Ok-Some-clause-found g c = λ e serves left.
    let l = c.args.from.now.line.now in let p = c.args.from.now.place in let s = c.in-Some.start in
    let h = c.loop-start.invariant.from e serves left in
    found_in e l p h.opened s c.next.new.self h.alts c.region.result (c.in-Some.ensures.steps e h.opened h.alts h.left) (λ is b.
    region_of_match e l p s c.in-Ok-Some.matched c.region.result (c.region.ensures e) is b
    (subst (Matches (leading is) p (run l (leading is) p)) c.in-Ok-Some.field-0-is (IfOk-at_ok _ c.in-Ok-Some.is c.find_way.ensures.found e is (c.loop-start.invariant.serves e l serves) b)))
    h.same

pub loop-start-preserved : goal.loop-start-preserved
loop-start-preserved g c = record {
  serves = λ e s h. c.find_way.ensures.same e s (c.loop-start.invariant.serves e s h);
  from = λ e serves left.
      let l = c.args.from.now.line.now in let p = c.args.from.now.place in let s = c.in-Some.start in
      let h = c.loop-start.invariant.from e serves left in
      passed_in e l p h.opened s c.next.new.self h.alts (c.in-Some.ensures.steps e h.opened h.alts h.left) (λ is b.
      ap (region_by s.opened (leading is) p)
      (subst (Matches (leading is) p (run l (leading is) p)) c.in-Ok-None.field-0-is (IfOk-at_ok _ c.in-Ok-None.is c.find_way.ensures.found e is (c.loop-start.invariant.serves e l serves) b)))
      h.same;
}
