use Rattle.std.proofs.Common.{length, ap, arith, length-append, length-drop}
use Rattle.replay.proofs.answers.Replay.answer_next_line.Goals as goal

-- what is behind a line is no longer than what the line was cut from
pub overflow_sub-end : goal.overflow_sub-end
overflow_sub-end g c = let first = c.in-Some.ensures.0 in omega (arith, simp length-append at (ap length first.joins), length-drop c.args.from c.args.bytes.now)
