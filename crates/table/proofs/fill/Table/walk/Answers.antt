use Rattle.std.proofs.Common.{◌≡◌, true, false, get_or, vec_items, sym, ◌∙◌}
use Rattle.ways.specs.Match.{run}
use Rattle.ways.specs.Meaning.{leading}
use Rattle.table.proofs.Most.{none_of}
use Rattle.table.proofs.Tables.{first_knows, first_there}
use Rattle.table.proofs.fill.Table.walk.Goals as goal
use Rattle.table.proofs.fill.Table.walk.Goals.{in_default-via-in-Some+else-is_set, in_default-via-in_default}

pub returns-in-Some : goal.returns-in-Some
returns-in-Some c e is filled begins =
    let p = c.args.from.now.place in
    let rows = c.rows_from-rows.ensures e c.args.from.now.line.now is filled begins in
    let set : get_or (vec_items c.in-Some.row.now) p false ≡ true = cc in
    c.follow.ensures is (record { opened = c.args.start.now.opened; depth = 0; good = begins.good; written = begins.written }) rows
    (sym (first_knows rows c.in-Some.row.now p c.in-Some.ensures.value c.args.from.now.edge) ∙ set)

pub returns-in_default : goal.returns-in_default
returns-in_default c e is filled begins =
    let l = c.args.from.now.line.now in
    let p = c.args.from.now.place in
    let rows = c.rows_from-rows.ensures e l is filled begins in
    elim c.in_default.branch [
      | in_default-via-in-Some+else-is_set w ↦
          let off : get_or (vec_items w.in-Some.row.now) p false ≡ false = cc in
          none_of (run l (leading is) p) (sym (first_knows rows w.in-Some.row.now p w.in-Some.ensures.value c.args.from.now.edge) ∙ off)
      | in_default-via-in_default w ↦ absurd (first_there rows w.in_default.ensures.value)
    ]
