-- What a cell tells of a repeat, from the cells below it and those behind it in its row. Assumes nothing.
use Rattle.std.proofs.Common.{◌≡◌, ◌<◌, Bool, true, false, ◌||◌, List, ◌∷◌, get_or, is_some, Some, sym, ap, ◌∙◌, subst}
use Rattle.std.specs.Str.{IsCharBoundary}
use Rattle.grammar.specs.declared.items.Piece.{Piece}
use Rattle.grammar.specs.declared.items.Times.{Times}
use Rattle.grammar.specs.declared.items.Times.TheVariants as u
use Rattle.grammar.specs.Grammar as g
use Rattle.ways.specs.declared.cursor.Cursor.{Cursor}
use Rattle.ways.specs.Match.{run}
use Rattle.ways.specs.Pieces.{Steps}
use Rattle.ways.proofs.Reading.{seen_times_as}
use Rattle.table.specs.declared.cell.Rows.{Rows}
use Rattle.table.specs.Cells.{KnowsAbove, TellsTaken}
use Rattle.table.proofs.Most.{many_some, some_some}

-- what `a || b` comes to
pub or_then : (a b r : Bool) → r ≡ a → r ≡ true → r ≡ (a || b)
or_then a b r is yes' = sym (ap (λ t. t || b) (sym is ∙ yes') ∙ sym yes')

pub or_else : (a b c r : Bool) → c ≡ a → c ≡ false → r ≡ b → r ≡ (a || b)
or_else a b c r is no' last = sym (ap (λ t. t || b) (sym is ∙ no') ∙ sym last)

-- the piece is taken from the cursor's place to the next
module _ (t : Piece) (times : Times) (rows : Rows) (at next : Cursor) (steps : Steps t at.line.now at.place (Some next)) (on : (next.line.now ≡ at.line.now) × (at.place < next.place)) where
  edge : IsCharBoundary at.line.now next.place
  edge = subst (λ l. IsCharBoundary l next.place) on.0 next.edge

  as_written : (r : Bool) (x : g.Piece) (v w : g.Times) (js : List g.Item) → v ≡ w
      → (KnowsAbove at.line.now at.place (g.takes x w ∷ js) rows.here.now → r ≡ is_some (run at.line.now (g.takes x w ∷ js) at.place))
      → KnowsAbove at.line.now at.place (g.takes x v ∷ js) rows.here.now → r ≡ is_some (run at.line.now (g.takes x v ∷ js) at.place)
  as_written r x v w js same h =
      subst (λ (z : g.Times). KnowsAbove at.line.now at.place (g.takes x z ∷ js) rows.here.now → r ≡ is_some (run at.line.now (g.takes x z ∷ js) at.place)) (sym same) h

  pub many_on : (r : Bool) → times ≡ u.Many → r ≡ (get_or rows.here.now next.place false || get_or rows.below.now at.place false) → TellsTaken t times at rows r
  many_on r many is x v js piece read low =
      as_written r x v g.many js (seen_times_as times u.Many v many read)
      (λ high. is ∙ (λ j. high next.place on.1 edge j || low at.place at.edge j) ∙ sym (many_some at.line.now x js at.place next.place (sym (steps x piece))))

  pub some_on : (r : Bool) → times ≡ u.Some → r ≡ (get_or rows.here.now next.place false || get_or rows.below.now next.place false) → TellsTaken t times at rows r
  some_on r some is x v js piece read low =
      as_written r x v g.some js (seen_times_as times u.Some v some read)
      (λ high. is ∙ (λ j. high next.place on.1 edge j || low next.place edge j) ∙ sym (some_some at.line.now x js at.place next.place (sym (steps x piece))))
