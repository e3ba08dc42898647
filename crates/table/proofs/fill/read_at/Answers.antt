use Rattle.std.proofs.Common.{◌≡◌, ℕ, List, drop, sym, ◌∙◌, subst}
use Rattle.std.proofs.lemmas.List.{take_rest}
use Rattle.std.proofs.lemmas.Str.{IsCharBoundary-end}
use Rattle.grammar.specs.Items.{Written}
use Rattle.table.proofs.Places.{readable, none_read, first_read}
use Rattle.table.proofs.fill.read_at.Goals as goal

pub returns-in_err-rest : goal.returns-in_err-rest
returns-in_err-rest c is w =
    let e = c.args.expression.now.text.now in
    absurd (c.in_err-rest.ensures.cases w.within (readable e c.args.place is w) (IsCharBoundary-end e))

pub returns-in_err-item : goal.returns-in_err-item
returns-in_err-item c is w =
    let same : c.in_ok-rest.rest.now ≡ drop c.args.place c.args.expression.now.text.now = c.in_ok-rest.ensures.cases.0 ∙ take_rest c.args.expression.now.text.now c.args.place in
    rw c.from_residual-in_err-item.ensures (none_read is c.in_ok-rest.rest.now c.in_err-item.ensures.reads (subst (λ (bs : List ℕ). Written bs is) (sym same) w.written))

pub returns : goal.returns
returns c is w =
    let same : c.in_ok-rest.rest.now ≡ drop c.args.place c.args.expression.now.text.now = c.in_ok-rest.ensures.cases.0 ∙ take_rest c.args.expression.now.text.now c.args.place in
    first_read is c.in_ok-item.item c.in_ok-item.field-0-1 c.in_ok-rest.rest.now c.in_ok-item.ensures.reads (subst (λ (bs : List ℕ). Written bs is) (sym same) w.written)
