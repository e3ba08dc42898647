use Rattle.std.proofs.Common.{◌≡◌, ◌++◌, ◌∷◌, length, sym, ap, subst, ◌∙◌}
use lib.Utf8.{encode}
use Rattle.grammar.specs.declared.items.Piece.{Piece}
use Rattle.grammar.specs.Items.{Reads}
use Rattle.grammar.specs.Parse.{Repeats}
use Rattle.grammar.proofs.First.{digit_reads, letter_reads, sign_reads, lone_reads}
use Rattle.grammar.proofs.items.escaped.Goals as goal
use Rattle.grammar.proofs.items.escaped.Goals.{in-Some, in-None}

pub returns-in_err-c-clause-reads : goal.returns-in_err-c-clause-reads
returns-in_err-c-clause-reads c =
    let bytes = c.args.rest.now in
    let empty = ap length (sym c.chars-chars.ensures.rest) ∙ c.in_err-c.ensures.steps.0.0 in
    subst (Reads (92 ∷ bytes)) (sym c.from_residual.ensures) (lone_reads bytes empty)

pub returns-then-is_ascii_digit-clause-reads : goal.returns-then-is_ascii_digit-clause-reads
returns-then-is_ascii_digit-clause-reads c =
    let left = c.next.new.self.rest.now in
    let from = sym c.chars-chars.ensures.rest ∙ c.in_ok-c.ensures.steps.0 in
    let is = sym c.if-is_ascii_digit.ensures.value in
    digit_reads c.args.rest.now left c.in_ok-c.c from is c.as_str-rest.result c.as_str-rest.ensures

pub returns-clause-reads : goal.returns-clause-reads
returns-clause-reads c =
    let bytes = c.args.rest.now in
    let left = c.as_str-rest.result.now in
    let char = c.in_ok-c.c in
    let from = sym c.chars-chars.ensures.rest ∙ c.in_ok-c.ensures.steps.0 ∙ ap (λ l. encode char ++ l) (sym c.as_str-rest.ensures) in
    let again = λ (x : Piece) (is : c.match-set_of.piece ≡ x). subst (λ y. Repeats y left c.repeated.result) is c.repeated.ensures.repeats in
    elim c.match-set_of.branch [
      | in-Some w ↦ letter_reads bytes left char from _ (sym w.in-Some.is ∙ c.set_of.ensures) _ (again _ w.piece-is)
      | in-None w ↦ sign_reads bytes left char from (sym w.in-None.is ∙ c.set_of.ensures) c.if-is_ascii_digit.ensures.value _ (again _ w.piece-is)
    ]
