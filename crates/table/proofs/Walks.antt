-- How far a piece goes on the preferred way. Assumes nothing.
use Rattle.std.proofs.Common.{◌≡◌, ℕ, Bool, true, false, ◌||◌, List, ◌∷◌, get_or, is_some, Some, None, sym, refl, ap, ◌∙◌, subst}
use Rattle.std.specs.Str.{IsCharBoundary}
use Rattle.grammar.specs.declared.items.Piece.{Piece}
use Rattle.grammar.specs.declared.items.Times.{Times}
use Rattle.grammar.specs.declared.items.Times.TheVariants as u
use Rattle.grammar.specs.Grammar as g
use Rattle.grammar.specs.Items.{IsPiece}
use Rattle.ways.specs.declared.cursor.Cursor.{Cursor}
use Rattle.ways.specs.Match.{step, then, else, from, run}
use Rattle.ways.specs.Pieces.{Steps}
use Rattle.ways.proofs.Reading.{seen_times_as}
use Rattle.table.specs.declared.cell.Rows.{Rows}
use Rattle.table.specs.Cells.{Knows}
use Rattle.table.specs.Walks.{Repeats, GoesMost, Goes}
use Rattle.table.proofs.Most.{Most, most_on, most_stops, most_some, else_some, none_of}

-- ===== as often as can be
or_again : (a b : Bool) → (a || b) ≡ ((a || b) || b)
or_again true b = refl
or_again false true = refl
or_again false false = refl

-- the cells tell whether as many as can be match
module _ (l : List ℕ) (x : g.Piece) (js : List g.Item) (here below : List Bool) (low : Knows l js below) where
  most_told : (v : g.Times) → Repeats v → Knows l (g.takes x v ∷ js) here → (q : ℕ) → IsCharBoundary l q → is_some (Most l x js q) ≡ (get_or here q false || get_or below q false)
  most_told g.once r high q b = absurd r
  most_told g.maybe r high q b = absurd r
  most_told g.many r high q b =
      let told = most_some l x js q in
      let a = is_some (run l (g.takes x g.some ∷ js) q) in
      let k = is_some (run l js q) in
      told ∙ or_again a k ∙ ap (λ t. t || k) (sym told) ∙ (λ i. sym (high q b) i || sym (low q b) i)
  most_told g.some r high q b = most_some l x js q ∙ (λ i. sym (high q b) i || sym (low q b) i)

-- as many as can be go by way of the cursor
pub record Mosts (t : Piece) (begin : Cursor) (rows : Rows) (at : Cursor) : Type 0 where
  pub line : at.line.now ≡ begin.line.now
  pub same : (x : g.Piece) (v : g.Times) (js : List g.Item) → IsPiece t x → Repeats v → Knows begin.line.now (g.takes x v ∷ js) rows.here.now → Knows begin.line.now js rows.below.now
      → Most begin.line.now x js begin.place ≡ Most begin.line.now x js at.place

module _ {t : Piece} {begin : Cursor} {rows : Rows} {at : Cursor} (m : Mosts t begin rows at) where
  abbrev here : List Bool
  here = rows.here.now

  abbrev below : List Bool
  below = rows.below.now

  module _ (next : Cursor) (steps : Steps t at.line.now at.place (Some next)) (on : next.line.now ≡ at.line.now) where
    next_edge : IsCharBoundary begin.line.now next.place
    next_edge = subst (λ k. IsCharBoundary k next.place) (on ∙ m.line) next.edge

    stepped : (x : g.Piece) → IsPiece t x → step begin.line.now x at.place ≡ Some next.place
    stepped x piece = sym (subst (λ k. Steps t k at.place (Some next)) m.line steps x piece)

    pub mosts_more : (get_or here next.place false || get_or below next.place false) ≡ true → Mosts t begin rows next
    mosts_more set = record {
      line = on ∙ m.line;
      same = λ x v js piece r high low.
          let l = begin.line.now in
          m.same x v js piece r high low ∙ most_on l x js at.place next.place (stepped x piece)
          ∙ else_some (Most l x js next.place) (from at.place (run l js at.place)) (most_told l x js here below low v r high next.place next_edge ∙ set);
    }

    pub mosts_end : (get_or here next.place false || get_or below next.place false) ≡ false → GoesMost t begin rows at.place
    mosts_end none x v js piece r high low =
        let l = begin.line.now in
        m.same x v js piece r high low ∙ most_on l x js at.place next.place (stepped x piece)
        ∙ ap (λ w. else w (from at.place (run l js at.place))) (none_of (Most l x js next.place) (most_told l x js here below low v r high next.place next_edge ∙ none))

  pub mosts_stop : Steps t at.line.now at.place None → GoesMost t begin rows at.place
  mosts_stop steps x v js piece r high low =
      m.same x v js piece r high low ∙ most_stops begin.line.now x js at.place (sym (subst (λ k. Steps t k at.place None) m.line steps x piece))

-- ===== as often as it is written
module _ (t : Piece) (times : Times) (at : Cursor) (rows : Rows) (r : ℕ) where
  as_written : (x : g.Piece) (v w : g.Times) (js : List g.Item) → v ≡ w
      → (Knows at.line.now (g.takes x w ∷ js) rows.here.now → run at.line.now (g.takes x w ∷ js) at.place ≡ from r (run at.line.now js r))
      → Knows at.line.now (g.takes x v ∷ js) rows.here.now → run at.line.now (g.takes x v ∷ js) at.place ≡ from r (run at.line.now js r)
  as_written x v w js same h =
      subst (λ (z : g.Times). Knows at.line.now (g.takes x z ∷ js) rows.here.now → run at.line.now (g.takes x z ∷ js) at.place ≡ from r (run at.line.now js r)) (sym same) h

  pub goes_many : times ≡ u.Many → GoesMost t at rows r → Goes t times at rows r
  goes_many many goes x v js piece read high low some =
      as_written x v g.many js (seen_times_as times u.Many v many read) (λ known. goes x g.many js piece tt known low) high

  pub goes_some : (next : Cursor) → times ≡ u.Some → Steps t at.line.now at.place (Some next) → next.line.now ≡ at.line.now → GoesMost t next rows r → Goes t times at rows r
  goes_some next is steps on goes x v js piece read high low some =
      as_written x v g.some js (seen_times_as times u.Some v is read)
      (λ known. ap (λ y. then y (Most at.line.now x js)) (sym (steps x piece))
      ∙ subst (λ (l : List ℕ). Knows l (g.takes x g.some ∷ js) rows.here.now → Knows l js rows.below.now → Most l x js next.place ≡ from r (run l js r)) on (goes x g.some js piece tt) known low) high
