use Rattle.std.proofs.Common.{sym, ◌∙◌, subst, IsUtf8, ◌+◌, ℕ}
use Rattle.std.specs.Str.{IsCharBoundary}
use Rattle.std.proofs.lemmas.Str.{IsCharBoundary-past_char}
use Rattle.ways.proofs.cursor.Cursor.step.Goals as goal

pub invariant_of-result : goal.invariant_of-result
invariant_of-result c =
    let self = c.args.self.now in
    let left = c.rest.ensures in
    let read = sym left ∙ sym c.chars.ensures.rest ∙ c.in_ok-c.ensures.steps.0 in
    let past = IsCharBoundary-past_char self.line.now c.next.new.self.rest.now self.place c.in_ok-c.c self.edge.0 (subst IsUtf8 left c.rest.utf8) read in
    record { edge = subst (λ (n : ℕ). IsCharBoundary self.line.now (self.place + n)) (sym c.len_utf8.ensures.value) past }
