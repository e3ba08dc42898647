use Rattle.std.proofs.Common.{◌≡◌, length, Err, sym, ap, ◌∙◌, rules, arith}
use Rattle.std.specs.Result.{IsErr, IsErrAnd, result_from_control_flow}
use Rattle.std.proofs.lemmas.Bool.{eqb-true, eqb-false}
use Rattle.std.proofs.lemmas.Result.{err_from_is_err_and}
use Rattle.cases.specs.Number.{number_from, number_of}
use Rattle.cases.proofs.Decimal.{number_empty, number_filled, told_at}
use Rattle.cases.proofs.Folded.{number_from-try_fold}
use Rattle.cases.proofs.number.read_number.Goals as goal

pub returns-then-is_empty : goal.returns-then-is_empty
returns-then-is_empty c =
    let none = eqb-true (length c.args.field.now) 0 (sym c.if-is_empty.ensures) in
    record { value = sym (number_empty c.args.field.now none); law = none }

pub returns : goal.returns
returns c =
    let field = c.args.field.now in
    let apart = eqb-false (length field) 0 (sym c.if-is_empty.ensures) in
    let is : c.try_fold.result ≡ number_of field =
    number_from-try_fold _ (λ v k. v ≡ result_from_control_flow k) (λ e r. IsErr r × IsErrAnd r (λ x. x ≡ e.0))
    (λ f n d v h k. search rules) (λ v m is. is) (λ v e r is back. let p = err_from_is_err_and r back.1 in (e.0, is, p.1 ∙ ap Err p.2))
    c.iter.result _ _ 0 c.try_fold.result c.try_fold.ensures.ran
    ∙ ap (number_from 0) c.iter.ensures.rest ∙ sym (number_filled field (omega arith)) in
    record { value = is; law = told_at field c.try_fold.result is }
