use Rattle.std.proofs.Common.{sym, ap, ◌∙◌, vec_items}
use Rattle.std.specs.Result.{result_ok}
use Rattle.std.proofs.lemmas.Result.{err_from_is_err_and}
use Rattle.cases.proofs.Pairs.{pair_more, refused_pair}
use Rattle.cases.proofs.hex.read_pairs.Goals as goal

pub returns-in_err-ok_or : goal.returns-in_err-ok_or
returns-in_err-ok_or c =
    let refused = err_from_is_err_and c.from_residual.result c.from_residual.ensures.1 in
    rw (refused.1, refused.2)
    (refused_pair c.args.pairs.now (vec_items c.loop-high.bytes) c.loop-high.high-index c.hex_byte.result _ c.loop-high-test.true c.told-pairs
    c.hex_byte.ensures (sym c.ok_or.ensures.value ∙ c.in_err-ok_or.was) c.loop-high.invariant)

pub loop-high-preserved : goal.loop-high-preserved
loop-high-preserved c =
    let i = c.loop-high.high-index in
    rw c.in_ok-push.ensures.items
    (pair_more c.args.pairs.now (vec_items c.loop-high.bytes) i c.in_ok-ok_or.field-0 c.loop-high-test.true (c.told-pairs i c.loop-high-test.true)
    (sym c.hex_byte.ensures ∙ c.ok_or.ensures.ok_part ∙ ap result_ok c.in_ok-ok_or.was) c.loop-high.invariant)
