use Rattle.std.proofs.Common.{refl, arith}
use Rattle.ways.proofs.Starts.{begun, ended, at_bar, at_open, at_other}
use Rattle.ways.proofs.start.Start.following.Goals as goal

pub loop-item-init : goal.loop-item-init
loop-item-init c = record { within = omega arith; few = c.args.self.now.few; passed = λ e is b. (is, begun b) }

pub returns-in-Bar-clause-after : goal.returns-in-Bar-clause-after
returns-in-Bar-clause-after c = λ e is b. at_bar (c.loop-item.invariant.passed e is b).1 c.in-Some.item c.next.new.self c.in-Some.ensures.steps _ refl refl refl c.in-Bar.is

pub loop-item-preserved-in-Open : goal.loop-item-preserved-in-Open
loop-item-preserved-in-Open c =
    let on = (c.in-Some.ensures.goes.on tt).2 in
    record {
      within = omega arith;
      few = (omega arith, omega arith);
      passed = λ e is b. (_, at_open (c.loop-item.invariant.passed e is b).1 c.in-Some.item c.next.new.self c.in-Some.ensures.steps c.in-Open.is);
    }

pub loop-item-preserved : goal.loop-item-preserved
loop-item-preserved c =
    let on = (c.in-Some.ensures.goes.on tt).2 in
    let no_bar = c.in_default-item.not-Bar in
    let no_open = c.in_default-item.not-Open in
    record {
      within = omega arith;
      few = (omega arith, omega arith);
      passed = λ e is b. (_, at_other (c.loop-item.invariant.passed e is b).1 c.in-Some.item c.next.new.self c.in-Some.ensures.steps no_bar no_open);
    }

pub returns-clause-after : goal.returns-clause-after
returns-clause-after c = λ e is b. ended (c.loop-item.invariant.passed e is b).1 c.in_default.ensures.steps
