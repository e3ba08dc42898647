use Rattle.std.proofs.Common.{ℕ, List}
use Rattle.grammar.specs.Parse.{items}
use Rattle.ways.specs.Matched.{Keeps}
use Rattle.ways.specs.Meaning.{alternatives}
use Rattle.ways.specs.Starts.{Left}
use Rattle.expression.proofs.Matched.{From}
use Rattle.expression.proofs.attempts.match_at.Given as goal

abbrev pub invariant-loop-start : goal.invariant-loop-start
invariant-loop-start g l = record {
  serves : Keeps g.W.FindWay.serves l.fn.way l.way;
  from : (e : List ℕ) → g.W.FindWay.serves l.fn.way e l.from.line.now → Left e 0 l.fn.alternatives (alternatives (items e)) → From e l.from.line.now l.from.place l.start-iterator;
}
