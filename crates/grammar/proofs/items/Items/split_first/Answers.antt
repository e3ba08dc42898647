use Rattle.std.proofs.Common.{◌++◌, Some, length, refl, sym, ap, subst, ◌∙◌, arith}
use lib.Utf8.{encode}
use Rattle.grammar.specs.declared.items.Item.TheVariants as i
use Rattle.grammar.specs.Grammar.{start, end, opens, closes, bar}
use Rattle.grammar.specs.Items.{Reads}
use Rattle.grammar.proofs.First.{Other, same_reads, none_reads, item_reads, any_reads, class_reads, backslash_reads, other_reads}
use Rattle.grammar.proofs.items.Items.split_first.Goals as goal
use Rattle.grammar.proofs.items.Items.split_first.Goals.{in-124, in-40, in-41, in-94, in-36, in-46, in-91, in-92+in_ok-escaped-in-92, in_default}

pub returns-in_err-first-clause-reads : goal.returns-in_err-first-clause-reads
returns-in_err-first-clause-reads c =
    let bytes = c.args.self.now.rest.now in
    let empty = ap length (sym c.chars-chars.ensures.rest) ∙ c.in_err-first.ensures.steps.0.0 in
    subst (Reads bytes) (sym c.from_residual.ensures) (none_reads bytes empty)

pub returns-clause-reads : goal.returns-clause-reads
returns-clause-reads c =
    let bytes = c.args.self.now.rest.now in
    let rest = c.as_str-rest.result in
    let left = rest.now in
    let first = c.in_ok-first.first in
    let whole = sym c.chars-chars.ensures.rest ∙ c.in_ok-first.ensures.steps.0 in
    let from = whole ∙ ap (λ l. encode first ++ l) (sym c.as_str-rest.ensures) in
    let same = same_reads bytes c.match-first.result in
    let item = item_reads bytes left first from in
    elim c.match-first.branch [
      | in-124 w ↦ same _ w.result-is (item 124 (omega arith) bar refl w.in-124.is i.Bar refl rest refl)
      | in-40 w ↦ same _ w.result-is (item 40 (omega arith) opens refl w.in-40.is i.Open refl rest refl)
      | in-41 w ↦ same _ w.result-is (item 41 (omega arith) closes refl w.in-41.is i.Close refl rest refl)
      | in-94 w ↦ same _ w.result-is (item 94 (omega arith) start refl w.in-94.is i.Start refl rest refl)
      | in-36 w ↦ same _ w.result-is (item 36 (omega arith) end refl w.in-36.is i.End refl rest refl)
      | in-46 w ↦ same _ w.result-is (any_reads bytes left first from _ w.in-46.is w.repeated.ensures.repeats)
      | in-91 w ↦
          let class = w.split.result in
          let again = w.repeated-in-91.ensures.repeats in
          same _ w.result-is (class_reads bytes left first from _ w.in-91.is class.0 class.1.now w.split.ensures.opens again)
      | in-92+in_ok-escaped-in-92 w ↦
          let a = w.in_ok-escaped-in-92 in
          same _ w.result-is (backslash_reads bytes left first from w.in-92.is (Some a.field-0) a.ensures.reads)
      | in_default w ↦
          let other : Other first = (
            (λ is. omega arith),
            (λ is. omega arith),
            (λ is. omega arith),
            (λ is. omega arith),
            (λ is. omega arith),
            (λ is. omega arith),
            (λ is. omega arith),
            (λ is. omega arith),
          ) in
          same _ w.result-is (other_reads bytes left first from _ other w.repeated-in_default.ensures.repeats)
    ]
