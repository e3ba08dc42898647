use Rattle.std.proofs.Common.{◌+◌, ◌-◌, length, drop, sym, ◌∙◌, length-drop, arith}
use Rattle.std.proofs.lemmas.List.{take_all}
use Rattle.cases.proofs.Parts.{at_space, no_space}
use Rattle.cases.proofs.fields.split_field.Goals as goal

pub returns-in-Some : goal.returns-in-Some
returns-in-Some c =
    let bytes = c.args.bytes.now in
    let behind = drop (c.in-Some.at + 1) bytes in
    rw (take_all (length bytes - (c.in-Some.at + 1)) behind (omega (arith, length-drop (c.in-Some.at + 1) bytes)))
    (at_space bytes c.in-Some.at (sym c.first_space.ensures ∙ c.in-Some.is))

pub returns-in-None : goal.returns-in-None
returns-in-None c = no_space c.args.bytes.now (sym c.first_space.ensures ∙ c.in-None.is)
