use Rattle.std.proofs.Common.{rules}
use Rattle.tries.proofs.Choices.{all_passed, bar_passed, start_passed, end_passed, stopped, bracket_comes, many_comes, none_comes, maybe_passed, once_passed, some_comes, maybe_comes}
use Rattle.tries.proofs.forward.Reached.forward.Goals as goal
use Rattle.tries.proofs.forward.Reached.forward.Goals.{in-Take+in-Maybe-Some, in-Take+in-Many-default, in-Take+in-Some-Some, in-Take+in-Once-None, in-Open, in-Bar, in-Start-2}

pub loop-item-preserved-in-Once-Some : goal.loop-item-preserved-in-Once-Some
loop-item-preserved-in-Once-Some g c =
    once_passed c.loop-item.invariant c.in-Some.ensures.reads c.in-Some.ensures.onward c.in-Take.is c.in-Once-Some.ensures.steps c.in-Once-Some.ensures.on.0
    c.in-Once-Some.is-0

pub loop-item-preserved-in-Maybe-None : goal.loop-item-preserved-in-Maybe-None
loop-item-preserved-in-Maybe-None g c =
    maybe_passed c.loop-item.invariant c.in-Some.ensures.reads c.in-Some.ensures.onward c.in-Take.is c.in-Maybe-None.ensures.steps c.in-Maybe-None.is-0

pub loop-item-preserved-in-Start : goal.loop-item-preserved-in-Start
loop-item-preserved-in-Start g c =
    start_passed c.loop-item.invariant c.in-Some.ensures.reads c.in-Some.ensures.onward c.in-Start.is (cc)

pub loop-item-preserved : goal.loop-item-preserved
loop-item-preserved g c =
    end_passed c.loop-item.invariant c.in-Some.ensures.reads c.in-Some.ensures.onward c.in-End.is (cc)

pub returns-in-Some-clause-comes : goal.returns-in-Some-clause-comes
returns-in-Some-clause-comes g c =
    let i = c.loop-item.invariant in
    let reads = c.in-Some.ensures.reads in
    let on = c.in-Some.ensures.onward in
    elim c.match-item.branch [
      | in-Take+in-Maybe-Some w ↦
          rw (w.self-is, w.self2-is) (maybe_comes i reads on w.in-Take.is w.in-Maybe-Some.ensures.steps w.in-Maybe-Some.ensures.on.0 w.in-Maybe-Some.is-0)
      | in-Take+in-Many-default w ↦ rw (w.self-is, w.self2-is) (many_comes i reads on w.in-Take.is w.in-Many-default.is-0)
      | in-Take+in-Some-Some w ↦
          rw (w.self-is, w.self2-is) (some_comes i reads on w.in-Take.is w.in-Some-Some.ensures.steps w.in-Some-Some.ensures.on.0 w.in-Some-Some.is-0)
      | in-Take+in-Once-None w ↦ rw (w.self-is, w.self2-is) (none_comes i reads on w.in-Take.is (search rules) (search rules))
      | in-Open w ↦ rw (w.self-is, w.self2-is) (bracket_comes i reads on w.in-Open.is)
      | in-Bar w ↦ rw (w.self-is, w.self2-is) (bar_passed i reads on w.in-Bar.is)
      | in-Start-2 w ↦ rw (w.self-is, w.self2-is) (stopped i reads on (search rules))
    ]

pub returns-clause-comes : goal.returns-clause-comes
returns-clause-comes g c = all_passed c.loop-item.invariant c.in_default.ensures.reads
