use Rattle.std.proofs.Common.{sym, ◌∙◌, subst}
use Rattle.std.proofs.lemmas.Result.{err_from_is_err_and}
use Rattle.matcher.proofs.Outside.{nothing, refused}
use Rattle.matcher.proofs.search.Matcher.search.Goals as goal

pub returns-in_err-check-in-Err-clause-told : goal.returns-in_err-check-in-Err-clause-told
returns-in_err-check-in-Err-clause-told g c =
    let e = c.args.expression.now in
    let l = c.args.line.now in
    let p = c.args.place in
    let out = err_from_is_err_and c.from_residual.result c.from_residual.ensures.1 in
    let is = refused (g.Self.Matcher.means c.args.self.now e l p) c.from_residual.result c.in_err-check-in-Err.field-0.0 out.0 out.1 out.2 (sym c.in_err-check-in-Err.was ∙ c.check.ensures l p) in
    subst (g.Self.Matcher.tells c.args.self.now e l p) (sym is) (g.met.Self.Matcher.told c.args.self.now e l p)

pub returns-in_ok-check-in-Err-clause-told : goal.returns-in_ok-check-in-Err-clause-told
returns-in_ok-check-in-Err-clause-told g c =
    let e = c.args.expression.now in
    let l = c.args.line.now in
    let p = c.args.place in
    let is = nothing (g.Self.Matcher.means c.args.self.now) (g.met.Self.Matcher.lawful c.args.self.now) e l p (λ u. c.in-Err.ensures.cases.0 u) c.in_ok-check-in-Err.field-0 (sym c.in_ok-check-in-Err.was ∙ c.check.ensures l p) in
    subst (g.Self.Matcher.tells c.args.self.now e l p) (sym is) (g.met.Self.Matcher.told c.args.self.now e l p)
