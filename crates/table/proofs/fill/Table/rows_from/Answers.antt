use Rattle.std.proofs.Common.{◌≡◌, ℕ, ◌-◌, length, vec_items, min, ap, ◌∙◌}
use Rattle.table.proofs.Tables.{rows_at}
use Rattle.table.proofs.fill.Table.rows_from.Goals as goal

pub returns : goal.returns
returns c e l is filled begins =
    let nth = c.args.start.now.nth in
    let at : c.min.result ≡ min nth (length (vec_items c.args.self.now.rows) - 1) =
    c.min.ensures ∙ ap (min nth) (c.saturating_sub-last.ensures ∙ ap (λ (n : ℕ). n - 1) (c.len.ensures ∙ c.args.self.now.rows.ok.0)) in
    rw c.deref.ensures.value (rows_at begins filled c.min.result at)
