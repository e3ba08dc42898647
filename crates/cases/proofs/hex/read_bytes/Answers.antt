use Rattle.std.proofs.Common.{◌≡◌, ◌/◌, ◌%◌, length, sym, ◌∙◌, subst, arith}
use Rattle.std.specs.Cmp.Lexicographic.{other_text}
use Rattle.std.specs.List.{concat}
use Rattle.std.proofs.lemmas.Bool.{eqb-true, eqb-false}
use Rattle.std.proofs.lemmas.Result.{MatchResult-weaker}
use Rattle.cases.specs.Hex.{Faulty}
use Rattle.cases.proofs.Pairs.{illegible_odd, pairs_join, spelled_filled}
use Rattle.cases.proofs.hex.read_bytes.Goals as goal

pub returns-then-not-is_empty : goal.returns-then-not-is_empty
returns-then-not-is_empty c =
    let some = eqb-false (length c.as_chunks.result.1.now) 0 (sym c.if-not-is_empty.ensures) in
    let left = c.as_chunks.ensures.back_len in
    let odd : length c.args.field.now % 2 ≡ 1 = omega arith in
    (odd, illegible_odd c.args.field.now odd (rw (← c.as_slice.ensures) (other_text _ _ c.if-eq.ensures)))

pub returns : goal.returns
returns c =
    let field = c.args.field.now in
    let filled = eqb-false (length field) 0 (sym c.if-is_empty.ensures) in
    let none = eqb-true (length c.as_chunks.result.1.now) 0 (sym c.if-not-is_empty.ensures) in
    let all : concat c.as_chunks.result.0.now ≡ field = pairs_join (length field / 2) field _ _ c.as_chunks.ensures.front c.as_chunks.ensures.back none in
    MatchResult-weaker c.read_pairs.result c.read_pairs.ensures (λ v is. spelled_filled field v.items (omega arith) (is ∙ all)) (λ x faulty. subst (Faulty x) all faulty)
