use Rattle.tries.proofs.Tries.{bracket_noted, bracket_left}
use Rattle.tries.proofs.run.Tries.+run_run_bracket_run_most.Goals as goal
use Rattle.tries.proofs.run.Tries.+run_run_bracket_run_most.Goals.{run_bracket-then-is_some, run_bracket-else-is_some}

pub run_bracket-returns-clause-tried : goal.run_bracket-returns-clause-tried
run_bracket-returns-clause-tried g t c =
    let tried = c.in_ok-end.ensures.tried in
    let ns = c.if-is_some.self.brackets.items in
    elim c.if-is_some.branch [
      | run_bracket-then-is_some w ↦
          bracket_noted {ns = ns} w.try_push.result tried (cc)
          w.try_push.ensures.ok w.try_push.ensures.full (rw w.self-is)
      | run_bracket-else-is_some w ↦ bracket_left {ns = ns} tried (cc) (cc)
    ]
