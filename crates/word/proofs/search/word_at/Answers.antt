use Rattle.std.proofs.Common.{◌≡◌, ℕ, true, false, List, Some, None, Option, sym, ap, ◌∙◌}
use Rattle.words.specs.Meaning.{free_before, words_of, word_at}
use Rattle.word.specs.Walks.{fresh, found}
use Rattle.word.proofs.Walking.{spanned, walk_found, none_touched}
use Rattle.word.proofs.search.word_at.Goals as goal

-- the bytes are those of the line
module _ (e bytes line : List ℕ) (p : ℕ) (same : bytes ≡ line) where
  touched : free_before bytes p ≡ false → None ≡ word_at e line p
  touched h = sym (ap (λ l. word_at e l p) (sym same) ∙ none_touched bytes p h (words_of e))

  walked : free_before bytes p ≡ true → (o : Option ℕ) → o ≡ found bytes p (fresh p) e → spanned p o ≡ word_at e line p
  walked h o is = sym (ap (λ l. word_at e l p) (sym same) ∙ walk_found bytes p e h ∙ ap (spanned p) (sym is))

pub returns-then-not-free_before : goal.returns-then-not-free_before
returns-then-not-free_before c =
    touched c.args.expression.now c.as_bytes-bytes.result.now c.args.line.now c.args.place c.as_bytes-bytes.ensures.value (sym c.if-not-free_before.ensures)

pub returns-in_err-end : goal.returns-in_err-end
returns-in_err-end c =
    c.from_residual.ensures
    ∙ walked c.args.expression.now c.as_bytes-bytes.result.now c.args.line.now c.args.place c.as_bytes-bytes.ensures.value (sym c.if-not-free_before.ensures) None (sym c.in_err-end.was ∙ c.first_word.ensures)

pub returns : goal.returns
returns c =
    ap Some c.spanning.ensures
    ∙ walked c.args.expression.now c.as_bytes-bytes.result.now c.args.line.now c.args.place c.as_bytes-bytes.ensures.value (sym c.if-not-free_before.ensures) (Some c.in_ok-end.end) (sym c.in_ok-end.was ∙ c.first_word.ensures)
