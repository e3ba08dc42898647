use Rattle.std.proofs.Common.{length, sym, ap, ◌∙◌, arith}
use Rattle.std.proofs.lemmas.List.{length-reverse}
use Rattle.std.specs.Slice.Iter.{iter_rest}
use Rattle.ways.specs.Groups.{opening, closing}
use Rattle.ways.specs.Meaning.{leading}
use Rattle.expression.specs.Layout.{laid_by}
use Rattle.expression.proofs.Lays.{begun, moved, few_open, at_open, at_close, at_other, at_bar, at_end, next_place, regional}
use Rattle.expression.proofs.groups.region.Goals as goal
use Rattle.expression.proofs.groups.region.Goals.{in-Some+in-Bar, in-None}

pub loop-item-init : goal.loop-item-init
loop-item-init c = record {
  few = let same = ap (λ r. length r.rest.now) c.into_iter-item-iterator.ensures.into_iter_gives in omega arith;
  lies = λ e is w b long same.
      begun c.args.start.now.opened is w _ c.new.result.items _ b.good (b.written ∙ ap (λ r. r.rest.now) (sym c.into_iter-item-iterator.ensures.into_iter_gives)) long
      (ap iter_rest c.copied-places.ensures.source ∙ c.iter.ensures.rest ∙ c.deref.ensures.0 ∙ same) c.new.ensures;
}

pub loop-item-preserved-in-Open : goal.loop-item-preserved-in-Open
loop-item-preserved-in-Open c =
    let n = next_place c.loop-item.places c.next-in-Open.new.self c.next-in-Open.result c.next-in-Open.ensures.steps in record {
      few = omega (arith, (c.in-Some.ensures.goes.on tt).2);
      lies = λ e is w b long same.
          let h = c.loop-item.invariant.lies e is w b long same in
          let laid = c.open.ensures.laid (omega (arith, length-reverse c.loop-item.laying.inner.items, few_open h c.in-Some.item c.next.new.self c.in-Some.ensures.steps c.in-Open.is)) in
          moved (at_open h c.in-Some.item c.next.new.self c.in-Some.ensures.steps c.in-Open.is) (laid ∙ ap (λ q. opening q (laid_by c.loop-item.laying)) (c.unwrap_or.ensures ∙ n.0)) n.1;
    }

pub loop-item-preserved-in-Close : goal.loop-item-preserved-in-Close
loop-item-preserved-in-Close c =
    let n = next_place c.loop-item.places c.next-in-Close.new.self c.next-in-Close.result c.next-in-Close.ensures.steps in record {
      few = omega (arith, (c.in-Some.ensures.goes.on tt).2);
      lies = λ e is w b long same.
          let h = c.loop-item.invariant.lies e is w b long same in
          moved (at_close h c.in-Some.item c.next.new.self c.in-Some.ensures.steps c.in-Close.is) (c.close.ensures.laid ∙ ap (λ q. closing q (laid_by c.loop-item.laying)) (c.unwrap_or-in-Close.ensures ∙ n.0)) n.1;
    }

pub loop-item-preserved : goal.loop-item-preserved
loop-item-preserved c = record {
  few = omega (arith, (c.in-Some.ensures.goes.on tt).2);
  lies = λ e is w b long same.
      let h = c.loop-item.invariant.lies e is w b long same in
      at_other h c.in-Some.item c.next.new.self c.in-Some.ensures.steps (λ o. grind arith) (λ o. grind arith) (λ o. grind arith);
}

pub returns : goal.returns
returns c = λ e is w b long same ended.
    let h = c.loop-item.invariant.lies e is w b long same in
    let finish = regional c.args.start.now.opened c.args.begin c.args.matched.now.end (leading is) w (laid_by c.loop-item.laying) c.put.new.self.region in
    elim c.match-next.branch [
      | in-Some+in-Bar v ↦ finish (at_bar h v.in-Some.item c.next.new.self v.in-Some.ensures.steps v.in-Bar.is) ended c.put.ensures.region
      | in-None v ↦ finish (at_end h v.in-None.ensures.steps) ended c.put.ensures.region
    ]
