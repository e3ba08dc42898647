use Rattle.std.proofs.Common.{◌≡◌, ◌<◌, ◌∷◌, ◌++◌, [], length, refl, ⊎_elim, arith}
use Rattle.std.proofs.lemmas.List.{take_rest}
use Rattle.ways.specs.declared.find.Matched.{Matched}
use Rattle.table.proofs.Follows.{walking_none, walking_all, walking_bar, on_ok, enough_rows, walking_start, walking_end, walking_never, walking_open, walking_close, walking_take}
use Rattle.table.proofs.walk.follow.Goals as goal
use Rattle.table.proofs.walk.follow.Goals.{in-Take, in-Open, in-Start, in-Some-len2-up+in-Bar, in_default, in_default-2}

pub loop-item-init : goal.loop-item-init
loop-item-init c is written filled some = rw c.new-brackets.ensures (walking_none is c.args.rows.now c.args.items.now.rest.now c.args.from.now written filled some)

pub loop-item-preserved : goal.loop-item-preserved
loop-item-preserved c is written filled some =
    let rows = c.loop-item.rows.now in
    let at = c.loop-item.end in
    let marks = c.loop-item.brackets.items in
    let s = c.loop-item.invariant is written filled some in
    let item = c.in-Some-len2-up.item in
    let others = c.in-Some-len2-up.others in
    let reads = c.in-Some-len2-up.ensures.reads in
    rw (take_rest rows 1)
    (elim c.match-item.branch [
      | in-Take w ↦
          rw (w.end-is, w.brackets-is)
          (walking_take s item others reads w.in-Take.piece w.in-Take.times c.here-item.result c.below-item.result (record { here = w.deref.result; below = w.deref-in-Take.result }) w.take-end.result
          w.in-Take.is c.here-item.is w.deref.ensures.value c.below-item.is w.deref-in-Take.ensures.value w.take-end.ensures.same w.take-end.ensures.goes)
      | in-Open w ↦
          let new = w.try_push.new.self.items in
          let pushed = λ (room : length marks < 30). on_ok w.try_push.result (new ≡ marks ++ at.place ∷ []) (w.try_push.ensures.variant.1 room) w.try_push.ensures.ok in
          rw (w.end-is, w.brackets-is) (⊎_elim (walking_open s item others reads new pushed) (walking_close s item others reads new pushed) w.in-Open.is)
      | in-Start w ↦
          rw (w.end-is, w.brackets-is)
          (⊎_elim (walking_start s item others reads) (⊎_elim (walking_end s item others reads) (walking_never s item others reads)) w.in-Start.is)
    ])

pub returns : goal.returns
returns c is written filled some =
    let s = c.loop-item.invariant is written filled some in
    let m : Matched = record { end = c.loop-item.end.place; brackets = c.loop-item.brackets } in
    elim c.match-split_first.branch [
      | in-Some-len2-up+in-Bar w ↦ walking_bar s w.in-Some-len2-up.item w.in-Some-len2-up.others w.in-Some-len2-up.ensures.reads w.in-Bar.is m refl refl
      | in_default w ↦ absurd (omega (arith, enough_rows s w.in_default.field-0-0.0 w.in_default.field-0-0.1 w.in_default.ensures.reads, w.in_default.len_below))
      | in_default-2 w ↦ walking_all s w.in_default.ensures.reads m refl refl
    ]
