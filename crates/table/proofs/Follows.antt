-- The walk through a table: what was passed, and the way of what is left. Assumes nothing.
use Rattle.std.proofs.Common.{◌≡◌, ℕ, ◌<◌, ◌≤◌, Bool, true, false, cond, eqb, List, [], ◌∷◌, ◌++◌, length, get_or, drop, is_some, Some, None, vec_items, Vec, Option, sym, refl, ap, ◌∙◌, subst, append_assoc, arith}
use Rattle.std.specs.Prelude.{Result, Ok, Err, IsOk, OnOk}
use Rattle.std.proofs.lemmas.List.{append-nil, length-append}
use Rattle.grammar.specs.declared.items.Piece.{Piece}
use Rattle.grammar.specs.declared.items.Times.{Times}
use Rattle.grammar.specs.declared.items.Item.{Item}
use Rattle.grammar.specs.declared.items.Item.TheVariants as i
use Rattle.grammar.specs.declared.items.Items.{Items}
use Rattle.grammar.specs.Grammar as g
use Rattle.grammar.specs.Items.{Written, Reads}
use Rattle.ways.specs.declared.cursor.Cursor.{Cursor}
use Rattle.ways.specs.declared.find.Matched.{Matched}
use Rattle.ways.specs.Match.{Way, at_end, when, from, run}
use Rattle.ways.specs.Meaning.{is_bar, leading, end_of}
use Rattle.ways.specs.Matched.{is_bracket, brackets, Matches}
use Rattle.ways.proofs.Reading.{First, first, none_written, seen_as}
use Rattle.table.specs.declared.cell.Rows.{Rows}
use Rattle.table.specs.Cells.{Knows}
use Rattle.table.specs.Tables.{RowsOf}
use Rattle.table.specs.Walks.{Goes}
use Rattle.table.proofs.Most.{some_from}
use Rattle.table.proofs.Tables.{row_read, rows_behind}

-- the first way of the items js from p on, which goes by way of the brackets passed to q, and on by w
pub record Through (l : List ℕ) (js : List g.Item) (p : ℕ) (passed : List ℕ) (q : ℕ) (rest : List g.Item) (w : Way) : Type 0 where
  pub way : Way
  pub runs : run l js p ≡ Some way
  pub ends : end_of p way ≡ end_of q w
  pub notes : brackets js way ≡ passed ++ brackets rest w

-- the items is were passed as far as the cursor, on their first way from p on; the others are written so, and have these rows
pub record Walking {Z : Type 0} (l : List ℕ) (is : List g.Item) (p : ℕ) (rows : List (Vec Bool Z)) (bytes : List ℕ) (at : Cursor) (marks : List ℕ) : Type 0 where
  pub line : at.line.now ≡ l
  pub tail : List g.Item
  pub written : Written bytes tail
  pub filled : RowsOf l tail rows
  pub some : is_some (run l (leading tail) at.place) ≡ true
  pub passed : List ℕ
  pub noted : length passed ≤ 30 → marks ≡ passed
  pub goes : (w : Way) → run l (leading tail) at.place ≡ Some w → Through l (leading is) p passed at.place (leading tail) w

pub walking_none : {Z : Type 0} (is : List g.Item) (rows : List (Vec Bool Z)) (bytes : List ℕ) (at : Cursor)
    → Written bytes is → RowsOf at.line.now is rows → is_some (run at.line.now (leading is) at.place) ≡ true → Walking at.line.now is at.place rows bytes at []
walking_none is rows bytes at written filled some = record {
  line = refl;
  tail = is;
  written = written;
  filled = filled;
  some = some;
  passed = [];
  noted = λ few. refl;
  goes = λ w runs. record { way = w; runs = runs; ends = refl; notes = refl };
}

-- a bracket at q is noted where there is room
pub noted_more : (marks passed new : List ℕ) (q : ℕ) → (length marks < 30 → new ≡ marks ++ q ∷ []) → (length passed ≤ 30 → marks ≡ passed) → length (passed ++ q ∷ []) ≤ 30 → new ≡ passed ++ q ∷ []
noted_more marks passed new q pushed noted few =
    let same = noted (omega (arith, length-append passed (q ∷ []))) in
    pushed (omega (arith, length-append passed (q ∷ []), ap length same)) ∙ ap (λ (ps : List ℕ). ps ++ q ∷ []) same

-- what holds of a value holds where there is one
pub on_ok : {T E : Type 0} (r : Result T E) (P : Type 0) → IsOk r → OnOk r P → P
on_ok (Ok t) P ok h = h
on_ok (Err e) P ok h = cc

when_some : (b : Bool) (o : Option Way) → is_some (when b o) ≡ true → when b o ≡ o
when_some true o e = refl
when_some false o e = cc

module _ {Z : Type 0} {l : List ℕ} {is : List g.Item} {p : ℕ} {rows : List (Vec Bool Z)} {bytes : List ℕ} {at : Cursor} {marks : List ℕ} (s : Walking l is p rows bytes at marks) where
  -- no item is left up to the next bar
  over : leading s.tail ≡ [] → (m : Matched) → at.place ≡ m.end → marks ≡ m.brackets.items → Matches (leading is) p (run l (leading is) p) (Some m)
  over none m ends same =
      let t = s.goes [] (ap (λ (js : List g.Item). run l js at.place) none) in
      let notes : brackets (leading is) t.way ≡ s.passed = t.notes ∙ ap (λ (js : List g.Item). s.passed ++ brackets js []) none ∙ append-nil s.passed in
      (t.way, t.runs, t.ends ∙ ends, λ few. sym same ∙ s.noted (omega (arith, ap length notes)) ∙ sym notes)

  pub walking_all : Reads bytes None → (m : Matched) → at.place ≡ m.end → marks ≡ m.brackets.items → Matches (leading is) p (run l (leading is) p) (Some m)
  walking_all reads = over (ap leading (none_written bytes reads s.tail s.written))

  module _ (item : Item) (others : Items) (reads : Reads bytes (Some (item, others))) where
    read : First item others s.tail
    read = first bytes item others reads s.tail s.written

    -- an item has its row, and that of those behind it
    pub enough_rows : 2 ≤ length rows
    enough_rows = omega (arith, s.filled.count, ap length read.split)

    pub walking_bar : item ≡ i.Bar → (m : Matched) → at.place ≡ m.end → marks ≡ m.brackets.items → Matches (leading is) p (run l (leading is) p) (Some m)
    walking_bar bar = over (ap leading (read.split ∙ ap (λ z. z ∷ read.tail) (seen_as item i.Bar read.head bar read.here)))

    all_rows : RowsOf l (read.head ∷ read.tail) rows
    all_rows = subst (λ (js : List g.Item). RowsOf l js rows) read.split s.filled

    split_as : (y : g.Item) → read.head ≡ y → is_bar y ≡ false → leading s.tail ≡ y ∷ leading read.tail
    split_as y same plain = ap leading (read.split ∙ ap (λ z. z ∷ read.tail) same) ∙ ap (λ c. cond c [] (y ∷ leading read.tail)) plain

    some_here : (y : g.Item) → read.head ≡ y → is_bar y ≡ false → is_some (run l (y ∷ leading read.tail) at.place) ≡ true
    some_here y same plain = subst (λ (js : List g.Item). is_some (run l js at.place) ≡ true) (split_as y same plain) s.some

    notes_on : (b : Bool) (q : ℕ) (qs : List ℕ) → s.passed ++ cond b (q ∷ qs) qs ≡ cond b (s.passed ++ q ∷ []) s.passed ++ qs
    notes_on true q qs = sym (append_assoc s.passed (q ∷ []) qs)
    notes_on false q qs = refl

    -- the item y ends at the cursor's place
    passed : (y : g.Item) → read.head ≡ y → is_bar y ≡ false → (to : Cursor) → to.line.now ≡ l → run l (y ∷ leading read.tail) at.place ≡ from to.place (run l (leading read.tail) to.place)
        → (new : List ℕ) → (length (cond (is_bracket y) (s.passed ++ to.place ∷ []) s.passed) ≤ 30 → new ≡ cond (is_bracket y) (s.passed ++ to.place ∷ []) s.passed) → Walking l is p (drop 1 rows) others.rest.now to new
    passed y same plain to line runs new noted = record {
      line = line;
      tail = read.tail;
      written = read.behind;
      filled = rows_behind l (read.head ∷ read.tail) rows 1 (omega arith) all_rows;
      some = sym (some_from to.place (run l (leading read.tail) to.place)) ∙ ap is_some (sym runs) ∙ some_here y same plain;
      passed = cond (is_bracket y) (s.passed ++ to.place ∷ []) s.passed;
      noted = noted;
      goes = λ w leads.
          let t = s.goes (to.place ∷ w) (ap (λ (js : List g.Item). run l js at.place) (split_as y same plain) ∙ runs ∙ ap (from to.place) leads) in
          record {
            way = t.way;
            runs = t.runs;
            ends = t.ends;
            notes = t.notes ∙ ap (λ (js : List g.Item). s.passed ++ brackets js (to.place ∷ w)) (split_as y same plain) ∙ notes_on (is_bracket y) to.place (brackets (leading read.tail) w);
          };
    }

    pub walking_start : item ≡ i.Start → Walking l is p (drop 1 rows) others.rest.now at marks
    walking_start is-start =
        let same = seen_as item i.Start read.head is-start read.here in
        passed g.start same refl at s.line (when_some (eqb at.place 0) (from at.place (run l (leading read.tail) at.place)) (some_here g.start same refl)) marks s.noted

    pub walking_end : item ≡ i.End → Walking l is p (drop 1 rows) others.rest.now at marks
    walking_end is-end =
        let same = seen_as item i.End read.head is-end read.here in
        passed g.end same refl at s.line (when_some (at_end l at.place) (from at.place (run l (leading read.tail) at.place)) (some_here g.end same refl)) marks s.noted

    pub walking_never : item ≡ i.Never → Walking l is p (drop 1 rows) others.rest.now at marks
    walking_never is_never =
        let n = seen_as item i.Never read.head is_never read.here in
        let some = some_here (g.never n.0) n.1 refl in
        cc

    module _ (new : List ℕ) (pushed : length marks < 30 → new ≡ marks ++ at.place ∷ []) where
      pub walking_open : item ≡ i.Open → Walking l is p (drop 1 rows) others.rest.now at new
      walking_open is_open = passed g.opens (seen_as item i.Open read.head is_open read.here) refl at s.line refl new (noted_more marks s.passed new at.place pushed s.noted)

      pub walking_close : item ≡ i.Close → Walking l is p (drop 1 rows) others.rest.now at new
      walking_close is-close = passed g.closes (seen_as item i.Close read.head is-close read.here) refl at s.line refl new (noted_more marks s.passed new at.place pushed s.noted)

    pub walking_take : (t : Piece) (times : Times) (here below : Vec Bool Z) (cells : Rows) (to : Cursor) → item ≡ i.Take t times
        → here ≡ get_or rows 0 here → cells.here.now ≡ vec_items here → below ≡ get_or rows 1 below → cells.below.now ≡ vec_items below
        → to.line.now ≡ at.line.now → Goes t times at cells to.place → Walking l is p (drop 1 rows) others.rest.now to marks
    walking_take t times here below cells to is-take h hs b bs line goes =
        let n = seen_as item (i.Take t times) read.head is-take read.here in
        let y = g.takes n.0 n.1 in
        let js = leading read.tail in
        let rows_here = subst (λ (z : g.Item). RowsOf l (z ∷ read.tail) rows) n.2 all_rows in
        let known_here : Knows l (y ∷ js) cells.here.now =
        subst (Knows l (y ∷ js)) (sym (hs ∙ row_read rows 0 here (omega (arith, enough_rows)) h)) (rows_here.each 0 (omega arith)).knows in
        let known_below : Knows l js cells.below.now =
        subst (Knows l js) (sym (bs ∙ row_read rows 1 below (omega (arith, enough_rows)) b)) (rows_here.each 1 (omega arith)).knows in
        passed y n.2 refl to (line ∙ s.line)
        (subst (λ (k : List ℕ). Knows k (y ∷ js) cells.here.now → Knows k js cells.below.now → is_some (run k (y ∷ js) at.place) ≡ true → run k (y ∷ js) at.place ≡ from to.place (run k js to.place)) s.line
        (goes n.0 n.1 js n.3 n.4) known_here known_below (some_here y n.2 refl))
        marks s.noted
