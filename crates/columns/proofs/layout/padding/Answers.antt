use Rattle.std.proofs.Common.{ℕ, replicate, sym, ap, ◌∙◌, rules}
use Rattle.std.specs.List.{flat_map}
use Rattle.std.specs.Str.{chars}
use Rattle.std.proofs.lemmas.Iterator.{items_from_drains, YieldsList-from_chars, YieldsList-from_map_by}
use Rattle.std.proofs.lemmas.Iterator.Consumers.{YieldsList-at}
use Rattle.std.proofs.lemmas.List.Folds.{flat_map-map}
use Rattle.std.proofs.lemmas.Result.{IfOk-weaker}
use Rattle.columns.specs.Columns.{columns}
use Rattle.columns.proofs.layout.padding.Goals as goal

pub returns : goal.returns
returns c =
    let text = c.args.text.now in
    let gap = λ (x : ℕ). replicate (columns x) 32 in
    let road = YieldsList-from_map_by _ (λ r. r.now) gap (YieldsList-at c.map.ensures.source (YieldsList-from_chars text c.utf8.text c.chars.ensures.rest)) c.map.ensures.closure (λ x r q k. search rules) in
    IfOk-weaker c.collect.result _ _
    (λ w (xs, drains, is). is ∙ sym (flat_map-map (λ x. x) (λ x. x.now) xs) ∙ ap (flat_map (λ x. x)) (items_from_drains xs drains road) ∙ flat_map-map (λ x. x) gap (chars text))
    c.collect.ensures.ran
