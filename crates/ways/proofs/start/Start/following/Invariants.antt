use Rattle.std.proofs.Common.{ℕ, ◌+◌, ◌<◌, ◌≤◌, ◌^◌, List, length}
use Rattle.grammar.specs.Grammar as g
use Rattle.ways.specs.Starts.{Begins}
use Rattle.ways.proofs.Starts.{Passed}
use Rattle.ways.proofs.start.Start.following.Given as goal

abbrev pub invariant-loop-item : goal.invariant-loop-item
invariant-loop-item l = record {
  within : length l.items.rest.now ≤ length l.self.items.rest.now;
  few : (l.nth + length l.items.rest.now < 2 ^ 63) × (l.opened + length l.items.rest.now < 2 ^ 63);
  passed : (e : List ℕ) (is : List g.Item) → Begins e l.self is → (tail : List g.Item) × Passed e l.self is l.items.rest.now l.nth l.opened tail;
}

abbrev pub decreases-loop-item : goal.decreases-loop-item
decreases-loop-item l = length l.items.rest.now
