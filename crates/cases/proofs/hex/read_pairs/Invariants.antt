use Rattle.std.proofs.Common.{◌≡◌, ◌++◌, drop, vec_items}
use Rattle.std.specs.List.{concat}
use Rattle.cases.specs.Hex.{written}
use Rattle.cases.proofs.hex.read_pairs.Given as goal

-- what was read writes the pairs before those that are left
abbrev pub invariant-loop-high : goal.invariant-loop-high
invariant-loop-high l = written (vec_items l.bytes) ++ concat (drop l.high-index l.pairs) ≡ concat l.pairs
