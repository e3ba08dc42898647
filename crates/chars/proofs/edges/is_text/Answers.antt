use Rattle.std.proofs.Common.{IsUtf8, Decides}
use Rattle.std.proofs.lemmas.Bool.Decides.{same_from_decides, Decides-at}
use Rattle.chars.specs.Edges.{text}
use Rattle.chars.proofs.Text.{text_tells, ok_decides}
use Rattle.chars.proofs.edges.is_text.Goals as goal

pub returns : goal.returns
returns c =
    let bytes = c.args.bytes.now in
    let d : Decides c.is_ok.result (IsUtf8 bytes) = Decides-at c.is_ok.result _ c.is_ok.ensures.value (ok_decides _ _ c.from_utf8.result c.from_utf8.ensures.cases) in
    record { value = same_from_decides c.is_ok.result (text bytes) d (text_tells bytes); decides = d }
