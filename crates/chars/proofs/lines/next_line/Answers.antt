use Rattle.std.proofs.Common.{◌≡◌, ℕ, ◌<◌, List, length, take, drop, sym, subst, arith}
use Rattle.std.proofs.lemmas.Bool.{eqb-true, eqb-false}
use Rattle.chars.specs.Lines.{First}
use Rattle.chars.proofs.Parts.{cut}
use Rattle.chars.proofs.lines.next_line.Goals as goal

pub returns-then-is_empty : goal.returns-then-is_empty
returns-then-is_empty c = (eqb-true (length c.args.bytes.now) 0 (sym c.if-is_empty.ensures), cut c.args.bytes.now)

pub returns : goal.returns
returns c =
    let bytes = c.args.bytes.now in
    let apart = eqb-false (length bytes) 0 (sym c.if-is_empty.ensures) in
    let filled : 0 < length bytes = omega arith in
    let front : take c.line_end.result bytes ≡ c.split_at.result.0.now = sym c.split_at.ensures.front in
    let back : drop c.line_end.result bytes ≡ c.split_at.result.1.now = sym c.split_at.ensures.back in (
      subst (λ (rest : List ℕ). First bytes c.split_at.result.0.now rest) back
          (subst (λ (line : List ℕ). First bytes line (drop c.line_end.result bytes)) front (c.line_end.ensures.first filled)),
      cut bytes,
    )
