use Rattle.std.proofs.Common.{◌≡◌, true, List, length, is_some}
use Rattle.grammar.specs.Grammar as g
use Rattle.grammar.specs.Items.{Written}
use Rattle.ways.specs.Match.{run}
use Rattle.ways.specs.Meaning.{leading}
use Rattle.table.specs.Tables.{RowsOf}
use Rattle.table.proofs.Follows.{Walking}
use Rattle.table.proofs.walk.follow.Given as goal

abbrev pub invariant-loop-item : goal.invariant-loop-item
invariant-loop-item l =
    (is : List g.Item) → Written l.items.rest.now is → RowsOf l.from.line.now is l.initial.rows → is_some (run l.from.line.now (leading is) l.from.place) ≡ true
    → Walking l.from.line.now is l.from.place l.rows l.left.rest.now l.end l.brackets.items

abbrev pub decreases-loop-item : goal.decreases-loop-item
decreases-loop-item l = length l.left.rest.now
