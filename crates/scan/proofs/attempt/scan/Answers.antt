use Rattle.std.proofs.Common.{◌≡◌, ℕ, List, Ok, Some, None, IsUtf8, Option, sym, refl, ap, ◌∙◌}
use Rattle.std.specs.Result.{result_and}
use Rattle.matcher.specs.declared.answer.Region.{Region}
use Rattle.matcher.specs.Answers.{Answer}
use Rattle.matcher.specs.Refusals.{verdict}
use Rattle.scan.specs.Earliest.{earliest}
use Rattle.scan.proofs.Earliest.{at_refused, at_outside}
use Rattle.scan.proofs.attempt.scan.Goals as goal

-- what is answered where the line is not UTF-8
outside : (refusal : List ℕ → Option ℕ) (at : List ℕ → List ℕ → ℕ → Option Region) (e l : List ℕ) (p : ℕ) → (IsUtf8 l → ⊥) → (o : Option ℕ) → refusal e ≡ o → ◌≡◌ {A = Answer} (result_and (verdict o) (Ok None)) (earliest refusal at e l p)
outside refusal at e l p out None legal = sym (at_outside refusal at e l p legal (λ u. out u.0))
outside refusal at e l p out (Some k) is = sym (at_refused refusal at e l p k is)

pub returns-in-Err : goal.returns-in-Err
returns-in-Err g c =
    let refusal = g.T.Attempt.refusal c.args.attempts.now in
    let at = g.T.Attempt.at c.args.attempts.now in
    let e = c.args.expression.now in
    c.and.ensures ∙ ap (λ r. result_and r (Ok None)) c.refuses.ensures ∙ outside refusal at e c.args.line.now c.args.place (λ u. c.in-Err.ensures.cases.0 u) (refusal e) refl
