use Rattle.std.proofs.Common.{vec_items, length, ◌≡◌}
use Rattle.table.proofs.Rows.{Filling}
use Rattle.table.proofs.row.row.Given as goal

abbrev pub invariant-loop-place : goal.invariant-loop-place
invariant-loop-place l = record { long : length (vec_items l.here) ≡ length l.below; known : Filling l.item l.line l.below (vec_items l.here) l.place }
