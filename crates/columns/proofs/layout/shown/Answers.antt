use Rattle.std.proofs.Common.{◌∙◌, rules}
use Rattle.std.specs.Str.{chars}
use Rattle.std.proofs.lemmas.Iterator.{text_from_collect, YieldsList-from_chars, YieldsList-from_map}
use Rattle.std.proofs.lemmas.Iterator.Consumers.{YieldsList-at}
use Rattle.std.proofs.lemmas.Result.{IfOk-weaker}
use Rattle.columns.specs.Columns.{picture}
use Rattle.columns.proofs.Spelling.{encodes-map}
use Rattle.columns.proofs.layout.shown.Goals as goal

pub returns : goal.returns
returns c =
    let text = c.args.text.now in
    IfOk-weaker c.collect.result _ _ (λ w is. is ∙ encodes-map picture (chars text))
    (text_from_collect c.collect.result c.collect.ensures.ran
    (YieldsList-from_map _ picture (YieldsList-at c.map.ensures.source (YieldsList-from_chars text c.utf8.text c.chars.ensures.rest)) c.map.ensures.closure (λ x r q k. search rules)))
