use Rattle.std.proofs.Common.{◌≡◌, ℕ, List, Ok, IsUtf8, sym, ap, ◌∙◌, subst, rules}
use Rattle.matcher.specs.Refusals.{verdict}
use Rattle.scan.specs.Earliest.{found_from}
use Rattle.scan.proofs.Earliest.{checked_earliest, found_answers}
use Rattle.grammar.specs.Reader.{refusal}
use Rattle.ways.specs.Meaning.{at, meaning}
use Rattle.preference.proofs.Telling.{told}
use Rattle.expression.proofs.search.ExpressionMatcherMatcher.search_text.Goals as goal

pub returns-in_err-expression : goal.returns-in_err-expression
returns-in_err-expression c =
    let e = c.args.expression.now in
    let l = c.args.line.now in
    let p = c.args.place in
    let is : c.from_residual.result ≡ meaning e l p = search rules in
    record { means = is; told = told e l p c.from_residual.result is }

pub returns : goal.returns
returns c =
    let e = c.args.expression.now in
    let l = c.args.line.now in
    let p = c.args.place in
    let u : IsUtf8 l = search rules in
    let legal = c.in_ok-expression.ensures.1 in
    let found = subst (λ (x : List ℕ). c.find.result ≡ found_from l (at x l) p) c.in_ok-expression.ensures.0 c.find.ensures in
    let is = found_answers refusal at e l p tt (Ok c.find.result) (sym (checked_earliest refusal at e l p ∙ ap verdict legal)) u found in
    record { means = is; told = told e l p (Ok c.find.result) is }
