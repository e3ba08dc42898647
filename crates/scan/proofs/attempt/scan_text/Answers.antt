use Rattle.std.proofs.Common.{◌≡◌, false, None, IsUtf8, sym, ◌∙◌, rules}
use Rattle.scan.proofs.Attempts.{takes_same, finds_same}
use Rattle.scan.proofs.Earliest.{checked_earliest, unrefused, found_answers}
use Rattle.scan.proofs.attempt.scan_text.Goals as goal

pub first_from-requires : goal.first_from-requires
first_from-requires g c =
    let refused = g.T.Attempt.refusal c.args.attempts.now c.args.expression.now in
    let legal : refused ≡ None = unrefused refused c.in_ok-refuses.field-0 (sym c.in_ok-refuses.was ∙ c.refuses.ensures) in
    takes_same _ c.args.line.now _ (λ p edge. search rules) (λ p r f' call. search rules)

pub returns : goal.returns
returns g c =
    let refusal = g.T.Attempt.refusal c.args.attempts.now in
    let at = g.T.Attempt.at c.args.attempts.now in
    let e = c.args.expression.now in
    let l = c.args.line.now in
    let u : IsUtf8 l = search rules in
    found_answers refusal at e l c.args.place c.in_ok-refuses.field-0 c.first_from.result (sym c.in_ok-refuses.was ∙ c.refuses.ensures ∙ sym (checked_earliest refusal at e l c.args.place)) u
    (c.first_from.ensures (at e l) (λ _. false) (finds_same _ l _ (at e l) (λ p r f' call. (search rules, search rules))))
