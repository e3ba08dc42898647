use Rattle.std.proofs.Common.{vec_items}
use Rattle.table.proofs.Tables.{growing_more, growing_same}
use Rattle.table.proofs.fill.Table.fill.Goals as goal

pub loop-place-preserved-in-Some-read_at : goal.loop-place-preserved-in-Some-read_at
loop-place-preserved-in-Some-read_at c =
    rw c.in_ok-push.ensures.items
    (growing_more c.loop-place.invariant (vec_items c.pop.new.self) c.in-Some.place c.in-Some.ensures.items c.in-Some-read_at.item c.in_ok-here.here c.in-Some-read_at.ensures
    (rw (← c.deref.ensures.value) c.in_ok-here.ensures))

pub loop-place-preserved : goal.loop-place-preserved
loop-place-preserved c = growing_same c.loop-place.invariant (vec_items c.pop.new.self) c.in-Some.place c.in-Some.ensures.items c.in_default-read_at.ensures
