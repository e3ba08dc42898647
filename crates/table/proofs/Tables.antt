-- A table grows by a row, for one item more at the front. Assumes nothing.
use Rattle.std.proofs.Common.{◌≡◌, ℕ, zero, suc, ◌+◌, ◌-◌, ◌<◌, ◌≤◌, min, Bool, false, is_some, List, [], ◌∷◌, ◌++◌, length, get_or, take, drop, vec_items, Vec, Some, None, sym, refl, ap, ◌∙◌, subst, ⊎_elim, le_of_suc-le-suc, arith}
use Rattle.std.specs.Str.{IsCharBoundary}
use Rattle.std.specs.List.{slice_get}
use mathlib.Core.List.{reverse}
use Rattle.std.proofs.lemmas.List.{length-append, get_or_append_left, get_or_push, reverse-append, length-drop, drop-drop, drop_all, take_rest}
use Rattle.std.proofs.lemmas.Bool.{cases_lt}
use Rattle.grammar.specs.declared.items.Item.{Item}
use Rattle.grammar.specs.Grammar as g
use Rattle.grammar.specs.Items.{IsItem, Written}
use Rattle.grammar.specs.Parse.{items, Spelled}
use Rattle.grammar.specs.Reader.{refusal}
use Rattle.grammar.proofs.Judging.{spelled}
use Rattle.ways.specs.declared.start.Start.{Start}
use Rattle.ways.specs.Match.{run}
use Rattle.ways.specs.Meaning.{leading}
use Rattle.ways.specs.Starts.{Begins}
use Rattle.table.specs.Cells.{Row, RowOn}
use Rattle.table.specs.Places.{WrittenAt, FirstIs}
use Rattle.table.specs.Tables.{row_at, RowsOf}

-- an expression that is not refused is written by its items
pub legal_written : (e : List ℕ) → refusal e ≡ None → Written e (items e)
legal_written e legal = let s = subst (Spelled e) legal (spelled e) in record { opened = 0; depth = 0; good = s.0; written = s.1 }

-- ===== the rows of a list
module _ {Z : Type 0} where
  pub row_read : (rows : List (Vec Bool Z)) (n : ℕ) (v : Vec Bool Z) → n < length rows → v ≡ get_or rows n v → vec_items v ≡ row_at rows n
  row_read [] n v lt is = absurd (omega arith)
  row_read (w ∷ rows) zero v lt is = ap vec_items is
  row_read (w ∷ rows) (suc n) v lt is = row_read rows n v (le_of_suc-le-suc lt) is

  row_behind : (rows : List (Vec Bool Z)) (k n : ℕ) → row_at (drop k rows) n ≡ row_at rows (k + n)
  row_behind rows zero n = ap (row_at rows) (omega arith)
  row_behind [] (suc k) n = refl
  row_behind (w ∷ rows) (suc k) n = let more : suc (k + n) ≡ suc k + n = omega arith in row_behind rows k n ∙ ap (row_at (w ∷ rows)) more

  -- the rows of the items from the kth on
  pub rows_behind : (l : List ℕ) (is : List g.Item) (rows : List (Vec Bool Z)) (k : ℕ) → k ≤ length is → RowsOf l is rows → RowsOf l (drop k is) (drop k rows)
  rows_behind l is rows k le h = record {
    count = omega (arith, length-drop k is, length-drop k rows, h.count);
    each = λ n in'. subst (Row l (leading (drop n (drop k is)))) (sym (row_behind rows k n))
        (subst (λ (js : List g.Item). Row l (leading js) (row_at rows (k + n))) (sym (drop-drop n k is)) (h.each (k + n) (omega (arith, length-drop k is))));
  }

  -- ===== a row more
  pub rows_more : (l : List ℕ) (item : Item) (y : g.Item) (js : List g.Item) (here below : Vec Bool Z) (rows : List (Vec Bool Z))
      → IsItem item y → RowOn item l (vec_items below) (vec_items here) → RowsOf l js (below ∷ rows) → RowsOf l (y ∷ js) (here ∷ below ∷ rows)
  rows_more l item y js here below rows is on h = record { count = ap suc h.count; each = each }
    where
      each : (n : ℕ) → n ≤ length (y ∷ js) → Row l (leading (drop n (y ∷ js))) (row_at (here ∷ below ∷ rows) n)
      each zero le = on y js is (h.each 0 (omega arith))
      each (suc n) le = h.each n (le_of_suc-le-suc le)

  -- item is read before them, or nothing is
  rows_on : (l : List ℕ) (item : Item) (js : List g.Item) (here below : Vec Bool Z) (rows : List (Vec Bool Z))
      → FirstIs js (Some item) → RowOn item l (vec_items below) (vec_items here) → RowsOf l (drop 1 js) (below ∷ rows) → RowsOf l js (here ∷ below ∷ rows)
  rows_on l item [] here below rows is on h = absurd is
  rows_on l item (y ∷ js) here below rows is on h = rows_more l item y js here below rows is on h

  rows_same : (l : List ℕ) (js : List g.Item) (rows : List (Vec Bool Z)) → FirstIs js None → RowsOf l (drop 1 js) rows → RowsOf l js rows
  rows_same l [] rows is h = h
  rows_same l (y ∷ js) rows is h = absurd is

  -- the first items stand at the places, and the others, backwards, have the rows and below, which is that of all of them
  pub record Growing (e l places : List ℕ) (below : Vec Bool Z) (rows : List (Vec Bool Z)) : Type 0 where
    pub stand : (k : ℕ) → k < length places → WrittenAt e (get_or places k 0) (drop k (items e))
    pub done : RowsOf l (drop (length places) (items e)) (below ∷ reverse rows)

  -- the last place is taken, and what is read there is known
  module _ {e l : List ℕ} {below : Vec Bool Z} {rows : List (Vec Bool Z)} {all : List ℕ} (h : Growing e l all below rows)
      (places : List ℕ) (place : ℕ) (split : all ≡ places ++ place ∷ []) where
    long : length all ≡ length places + 1
    long = ap length split ∙ length-append places (place ∷ [])

    fewer : (k : ℕ) → k < length places → WrittenAt e (get_or places k 0) (drop k (items e))
    fewer k lt =
        subst (λ (i : ℕ). WrittenAt e i (drop k (items e))) (ap (λ (ps : List ℕ). get_or ps k 0) split ∙ get_or_append_left places (place ∷ []) 0 k lt)
        (h.stand k (omega (arith, long)))

    here_written : WrittenAt e place (drop (length places) (items e))
    here_written =
        subst (λ (i : ℕ). WrittenAt e i (drop (length places) (items e))) (ap (λ (ps : List ℕ). get_or ps (length places) 0) split ∙ get_or_push places place 0 (length places) refl)
        (h.stand (length places) (omega (arith, long)))

    others : RowsOf l (drop 1 (drop (length places) (items e))) (below ∷ reverse rows)
    others = subst (λ (js : List g.Item). RowsOf l js (below ∷ reverse rows)) (ap (λ (n : ℕ). drop n (items e)) long ∙ sym (drop-drop 1 (length places) (items e))) h.done

    pub growing_more : (item : Item) (here : Vec Bool Z) → ((is : List g.Item) → WrittenAt e place is → FirstIs is (Some item)) → RowOn item l (vec_items below) (vec_items here)
        → Growing e l places here (rows ++ below ∷ [])
    growing_more item here is on = record {
      stand = fewer;
      done = subst (λ vs. RowsOf l (drop (length places) (items e)) (here ∷ vs)) (sym (reverse-append rows (below ∷ [])))
          (rows_on l item (drop (length places) (items e)) here below (reverse rows) (is (drop (length places) (items e)) here_written) on others);
    }

    pub growing_same : ((is : List g.Item) → WrittenAt e place is → FirstIs is None) → Growing e l places below rows
    growing_same is = record {
      stand = fewer;
      done = rows_same l (drop (length places) (items e)) (below ∷ reverse rows) (is (drop (length places) (items e)) here_written) others;
    }

-- ===== the rows of an alternative
-- behind the last item there is none
drop_within : (n m : ℕ) (xs : List g.Item) → m ≡ length xs → drop (min n m) xs ≡ drop n xs
drop_within n m xs same = ⊎_elim
    (λ low. let k : min n m ≡ n = omega arith in ap (λ (i : ℕ). drop i xs) k)
    (λ high. let k : min n m ≡ m = omega arith in ap (λ (i : ℕ). drop i xs) k ∙ drop_all m xs (omega arith) ∙ sym (drop_all n xs (omega arith)))
    (cases_lt n m)

pub rows_at : {Z : Type 0} {e l : List ℕ} {s : Start} {is : List g.Item} {rows : List (Vec Bool Z)} → Begins e s is → RowsOf l (items e) rows
    → (k : ℕ) → k ≡ min s.nth (length rows - 1) → RowsOf l is (take (length rows - k) (drop k rows))
rows_at {Z} {e} {l} {s} {is} {rows} begins filled k at =
    let last : length rows - 1 ≡ length (items e) = omega (arith, filled.count) in
    let same : drop k (items e) ≡ is = ap (λ (i : ℕ). drop i (items e)) at ∙ drop_within s.nth (length rows - 1) (items e) last ∙ sym begins.rest in
    subst (RowsOf l is) (sym (take_rest rows k)) (subst (λ (js : List g.Item). RowsOf l js (drop k rows)) same (rows_behind l (items e) rows k (omega arith) filled))

-- the first row tells of all the items
pub first_knows : {Z : Type 0} {l : List ℕ} {is : List g.Item} {rows : List (Vec Bool Z)} → RowsOf l is rows
    → (v : Vec Bool Z) (p : ℕ) → Some v ≡ slice_get rows 0 → IsCharBoundary l p → get_or (vec_items v) p false ≡ is_some (run l (leading is) p)
first_knows {rows = []} h v p first edge = cc
first_knows {Z} {l} {is} {rows = w ∷ rows} h v p first edge =
    let same : v ≡ w = cc in
    subst (λ (u : Vec Bool Z). get_or (vec_items u) p false ≡ is_some (run l (leading is) p)) (sym same) ((h.each 0 (omega arith)).knows p edge)

pub first_there : {Z : Type 0} {l : List ℕ} {is : List g.Item} {rows : List (Vec Bool Z)} → RowsOf l is rows → None ≡ slice_get rows 0 → ⊥
first_there {rows = []} h none = omega (arith, h.count)
first_there {rows = v ∷ rows} h none = cc
