use Rattle.std.proofs.Common.{◌≡◌, ℕ, List, [], vec_items, sym, refl, subst}
use Rattle.table.proofs.Tables.{legal_written}
use Rattle.table.proofs.Places.{Standing, standing_none, standing_more, standing_all}
use Rattle.table.proofs.fill.places.Goals as goal

pub loop-others-init : goal.loop-others-init
loop-others-init c =
    let e = c.args.expression.now.text.now in
    let none : [] ≡ vec_items c.new-places.result = sym c.new-places.ensures.items in
    subst (λ (ps : List ℕ). Standing e ps c.items-left.result.rest.now) none
    (subst (Standing e []) (sym c.items-left.ensures) (standing_none e (legal_written e c.args.expression.now.legal)))

pub loop-others-preserved : goal.loop-others-preserved
loop-others-preserved c =
    let e = c.args.expression.now.text.now in
    rw c.in_ok-push.ensures.items (standing_more e (vec_items c.loop-others.places) c.loop-others.left.rest.now _ _ c.in-Some.others refl c.in-Some.ensures.reads c.loop-others.invariant)

pub returns : goal.returns
returns c = standing_all c.args.expression.now.text.now (vec_items c.loop-others.places) c.loop-others.left.rest.now c.in_default.ensures.reads c.loop-others.invariant
