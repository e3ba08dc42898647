use Rattle.std.proofs.Common.{false, sym, ◌∙◌, rules, IsUtf8}
use Rattle.std.proofs.lemmas.Result.{err_from_is_err_and}
use Rattle.matcher.proofs.Outside.{refused}
use Rattle.scan.proofs.Attempts.{takes_same, finds_same}
use Rattle.scan.proofs.Earliest.{found_answers}
use Rattle.words.specs.Reader.{refusal}
use Rattle.words.specs.Meaning.{word_at, meaning}
use Rattle.words.proofs.Telling.{told}
use Rattle.word.proofs.search.WordMatcherMatcher.search_text.Goals as goal

pub returns-in_err-check : goal.returns-in_err-check
returns-in_err-check c =
    let e = c.args.expression.now in
    let l = c.args.line.now in
    let out = err_from_is_err_and c.from_residual.result c.from_residual.ensures.1 in
    let is = refused (meaning e l c.args.place) c.from_residual.result c.in_err-check.field-0.0 out.0 out.1 out.2 (sym c.in_err-check.was ∙ c.check.ensures l c.args.place) in
    record { means = is; told = told e l c.args.place c.from_residual.result is }

pub first_from-requires : goal.first_from-requires
first_from-requires c = takes_same _ c.args.line.now _ (λ p edge. search rules) (λ p r f' call. search rules)

pub returns : goal.returns
returns c =
    let e = c.args.expression.now in
    let l = c.args.line.now in
    let u : IsUtf8 l = search rules in
    let is =
    found_answers refusal word_at e l c.args.place c.in_ok-check.field-0 c.first_from.result (sym c.in_ok-check.was ∙ c.check.ensures l c.args.place) u
    (c.first_from.ensures (word_at e l) (λ _. false) (finds_same _ l _ (word_at e l) (λ p r f' call. (search rules, search rules)))) in
    record { means = is; told = told e l c.args.place c.first_from.result is }
