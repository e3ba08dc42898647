use Rattle.std.proofs.Common.{Ok, Some, None, vec_items, IsUtf8, sym, ap, ◌∙◌, subst, rules}
use Rattle.matches.proofs.Chains.{Follows, follows_end, matches, legal}
use Rattle.std.proofs.lemmas.Result.{err_from_is_err_and}
use Rattle.matches.proofs.all.all_matches.Goals as goal

pub returns-in_default-2 : goal.returns-in_default-2
returns-in_default-2 g c =
    let means = g.M.Matcher.means c.args.matcher.now in
    let law = g.met.M.Matcher.lawful c.args.matcher.now in
    let u : IsUtf8 c.args.line.now = search rules in
    matches means law c.args.expression.now c.args.line.now u (vec_items c.loop-place.spans)
    (follows_end means c.args.expression.now c.args.line.now (vec_items c.loop-place.spans) (Some c.in-Some.at)
    (sym c.next_match.ensures.means ∙ c.in_ok-found.was ∙ ap Ok c.in_default-2.is)
    (subst (Follows means c.args.expression.now c.args.line.now (vec_items c.loop-place.spans)) c.in-Some.is c.loop-place.invariant))

pub returns : goal.returns
returns g c =
    let means = g.M.Matcher.means c.args.matcher.now in
    let law = g.met.M.Matcher.lawful c.args.matcher.now in
    let u : IsUtf8 c.args.line.now = search rules in
    matches means law c.args.expression.now c.args.line.now u (vec_items c.loop-place.spans)
    (follows_end means c.args.expression.now c.args.line.now (vec_items c.loop-place.spans) None tt
    (subst (Follows means c.args.expression.now c.args.line.now (vec_items c.loop-place.spans)) c.in_default.is c.loop-place.invariant))

pub returns-in_err-push : goal.returns-in_err-push
returns-in_err-push g c =
    let p = err_from_is_err_and c.from_residual-in_err-push.result c.from_residual-in_err-push.ensures.1 in
    rw (p.1, p.2)
    (legal (g.M.Matcher.means c.args.matcher.now) (g.met.M.Matcher.lawful c.args.matcher.now) c.args.expression.now c.args.line.now c.in-Some.at c.in-Some-2.found
    (ap Ok (sym c.in-Some-2.is) ∙ sym c.in_ok-found.was ∙ c.next_match.ensures.means))
