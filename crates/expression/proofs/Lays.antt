-- The groups of a match, laid bracket by bracket. Assumes nothing.
use Rattle.std.proofs.Common.{◌≡◌, ℕ, ◌+◌, ◌-◌, ◌<◌, ◌≤◌, Bool, true, false, cond, suc, List, [], ◌∷◌, length, get_or, drop, reverse, Option, Bor, Iter, Some, None, sym, refl, ap, ◌∙◌, subst, arith}
use Rattle.std.specs.declared.iter.Copied.{Copied}
use Rattle.std.specs.Iterator.Adapters.{copied_source, copied_steps}
use Rattle.std.specs.Option.{unwrap_or, option_copied}
use Rattle.std.specs.Slice.Iter.{iter_rest, iter_steps}
use Rattle.grammar.specs.declared.items.Item.{Item}
use Rattle.grammar.specs.declared.items.Item.TheVariants as tok
use Rattle.grammar.specs.declared.items.Items.{Items}
use Rattle.grammar.specs.Grammar as g
use Rattle.grammar.specs.Items.{IsItem, Written, Reads}
use Rattle.matcher.specs.declared.answer.Region.{Region}
use Rattle.ways.specs.Match.{Way}
use Rattle.ways.specs.Groups.{blank, Laying, put, opening, closing, closing_on, lay, laid}
use Rattle.ways.specs.Matched.{is_bracket, brackets}
use Rattle.ways.specs.Meaning.{is_bar, leading, end_of, region_of}
use Rattle.ways.proofs.Reading.{First, first, none_written, seen_as}

abbrev pub bracketed : g.Item → List ℕ → List ℕ
bracketed x ps = cond (is_bracket x) (drop 1 ps) ps

-- laid by the places of the brackets alone
abbrev pub lays : Laying → List g.Item → List ℕ → Laying
lays y [] ps = y
lays y (x ∷ is) ps = lays (lay x (get_or ps 0 0) y) is (bracketed x ps)

lay_plain : (x : g.Item) (q : ℕ) (y : Laying) → is_bracket x ≡ false → lay x q y ≡ y
lay_plain (g.takes x t) q y e = refl
lay_plain g.start q y e = refl
lay_plain g.end q y e = refl
lay_plain (g.never d) q y e = refl
lay_plain g.opens q y e = absurd (cc)
lay_plain g.closes q y e = absurd (cc)
lay_plain g.bar q y e = refl

pub laid_lays : (y : Laying) (js : List g.Item) (w : Way) → length w ≡ length js → laid y js w ≡ lays y js (brackets js w)
laid_lays y [] w e = refl
laid_lays y (x ∷ js) [] e = absurd (omega arith)
laid_lays y (x ∷ js) (q ∷ w) e = laid_lays (lay x q y) js w (omega arith) ∙ at (is_bracket x) refl
  where
    at : (t : Bool) → is_bracket x ≡ t → lays (lay x q y) js (brackets js w) ≡ lays (lay x (get_or (cond t (q ∷ brackets js w) (brackets js w)) 0 0) y) js (cond t (drop 1 (cond t (q ∷ brackets js w) (brackets js w))) (cond t (q ∷ brackets js w) (brackets js w)))
    at true h = refl
    at false h = ap (λ z. lays z js (brackets js w)) (lay_plain x q y h ∙ sym (lay_plain x (get_or (brackets js w) 0 0) y h))

-- y is laid so far, of what is laid in whole; items are left that are written so, and places of their brackets
pub record Lying (y : Laying) (bytes ps : List ℕ) (whole : Laying) : Type 0 where
  pub tail : List g.Item
  pub depth : ℕ
  pub good : g.Good y.opened depth tail
  pub written : g.written tail ≡ bytes
  pub room : length y.inner ≤ y.opened
  pub so_far : whole ≡ lays y (leading tail) ps

closed_few : (q n : ℕ) (ks : List ℕ) (r : Region) → length ks ≤ n → ((closing_on q n ks r).opened ≡ n) × (length (closing_on q n ks r).inner ≤ n)
closed_few q n [] r le = (refl, omega arith)
closed_few q n (k ∷ ks) r le = (refl, omega arith)

-- before the first item
abbrev pub fresh : ℕ → List ℕ → Laying
fresh n inner = record { opened = n; inner = inner; region = blank }

pub begun : (o : ℕ) (is : List g.Item) (w : Way) (bytes inner ps : List ℕ) → g.Good o 0 is → g.written is ≡ bytes → length w ≡ length (leading is)
    → ps ≡ brackets (leading is) w → inner ≡ [] → Lying (fresh o (reverse inner)) bytes ps (laid (fresh o []) (leading is) w)
begun o is w bytes inner ps good written long same none =
    subst (λ (k : List ℕ). Lying (fresh o (reverse k)) bytes ps (laid (fresh o []) (leading is) w)) (sym none)
    (record {
      tail = is;
      depth = 0;
      good = good;
      written = written;
      room = omega arith;
      so_far = laid_lays (fresh o []) (leading is) w long ∙ ap (lays (fresh o []) (leading is)) (sym same);
    })

pub moved : {y z : Laying} {bytes ps qs : List ℕ} {whole : Laying} → Lying z bytes qs whole → y ≡ z → ps ≡ qs → Lying y bytes ps whole
moved {y} {z} {bytes} {ps} {qs} {whole} h e f = subst (λ u. Lying u bytes ps whole) (sym e) (subst (λ us. Lying z bytes us whole) (sym f) h)

module _ {y : Laying} {bytes ps : List ℕ} {whole : Laying} (h : Lying y bytes ps whole) where
  left : Written bytes h.tail
  left = record { opened = y.opened; depth = h.depth; good = h.good; written = h.written }

  finished : leading h.tail ≡ [] → whole ≡ y
  finished none = h.so_far ∙ ap (λ js. lays y js ps) none

  pub at_end : Reads bytes None → whole ≡ y
  at_end reads = finished (ap leading (none_written bytes reads h.tail left))

  module _ (item : Item) (others : Items) (reads : Reads bytes (Some (item, others))) where
    read : First item others h.tail
    read = first bytes item others reads h.tail left

    tail_as : (x : g.Item) → read.head ≡ x → h.tail ≡ x ∷ read.tail
    tail_as x same = read.split ∙ ap (λ z. z ∷ read.tail) same

    good_as : (x : g.Item) → read.head ≡ x → g.Good y.opened h.depth (x ∷ read.tail)
    good_as x same = subst (g.Good y.opened h.depth) (tail_as x same) h.good

    pub at_bar : item ≡ tok.Bar → whole ≡ y
    at_bar bar = finished (ap leading (tail_as g.bar (seen_as item tok.Bar read.head bar read.here)))

    on : (x : g.Item) (t : Bool) → read.head ≡ x → is_bar x ≡ false → is_bracket x ≡ t
        → whole ≡ lays (lay x (get_or ps 0 0) y) (leading read.tail) (cond t (drop 1 ps) ps)
    on x t same plain bracket =
        h.so_far ∙ ap (λ js. lays y (leading js) ps) (tail_as x same) ∙ ap (λ c. lays y (cond c [] (x ∷ leading read.tail)) ps) plain
        ∙ ap (λ c. lays (lay x (get_or ps 0 0) y) (leading read.tail) (cond c (drop 1 ps) ps)) bracket

    pub few_open : item ≡ tok.Open → length y.inner < 15
    few_open is_open = let few = (good_as g.opens (seen_as item tok.Open read.head is_open read.here)).0 in let room = h.room in omega arith

    pub at_open : item ≡ tok.Open → Lying (opening (get_or ps 0 0) y) others.rest.now (drop 1 ps) whole
    at_open is_open =
        let same = seen_as item tok.Open read.head is_open read.here in
        let room = h.room in
        let one : y.opened + 1 ≡ suc y.opened = omega arith in
        record {
          tail = read.tail;
          depth = h.depth + 1;
          good = subst (λ (o : ℕ). g.Good o (h.depth + 1) read.tail) one (good_as g.opens same).1;
          written = read.behind.written;
          room = omega arith;
          so_far = on g.opens true same refl refl;
        }

    pub at_close : item ≡ tok.Close → Lying (closing (get_or ps 0 0) y) others.rest.now (drop 1 ps) whole
    at_close is_close =
        let same = seen_as item tok.Close read.head is_close read.here in
        let few = closed_few (get_or ps 0 0) y.opened y.inner y.region h.room in
        record {
          tail = read.tail;
          depth = h.depth - 1;
          good = subst (λ (o : ℕ). g.Good o (h.depth - 1) read.tail) (sym few.0) (good_as g.closes same).1;
          written = read.behind.written;
          room = subst (λ (o : ℕ). length (closing (get_or ps 0 0) y).inner ≤ o) (sym few.0) few.1;
          so_far = on g.closes true same refl refl;
        }

    -- an item x that is no bracket
    over : (x : g.Item) → read.head ≡ x → is_bar x ≡ false → is_bracket x ≡ false → g.Good y.opened h.depth read.tail → Lying y others.rest.now ps whole
    over x same plain no' good = record {
      tail = read.tail;
      depth = h.depth;
      good = good;
      written = read.behind.written;
      room = h.room;
      so_far = on x false same plain no' ∙ ap (λ z. lays z (leading read.tail) ps) (lay_plain x (get_or ps 0 0) y no');
    }

    over_as : (x : g.Item) → read.head ≡ x → IsItem item x → (item ≡ tok.Bar → ⊥) → (item ≡ tok.Open → ⊥) → (item ≡ tok.Close → ⊥) → Lying y others.rest.now ps whole
    over_as (g.takes x v) same is nb no' nc = over (g.takes x v) same refl refl (good_as (g.takes x v) same).1
    over_as g.start same is nb no' nc = over g.start same refl refl (good_as g.start same)
    over_as g.end same is nb no' nc = over g.end same refl refl (good_as g.end same)
    over_as (g.never d) same is nb no' nc = over (g.never d) same refl refl (good_as (g.never d) same).1
    over_as g.opens same is nb no' nc = absurd (no' is)
    over_as g.closes same is nb no' nc = absurd (nc is)
    over_as g.bar same is nb no' nc = absurd (nb is)

    pub at_other : (item ≡ tok.Bar → ⊥) → (item ≡ tok.Open → ⊥) → (item ≡ tok.Close → ⊥) → Lying y others.rest.now ps whole
    at_other nb no' nc = over_as read.head refl read.here nb no' nc

none_of : (xs : List ℕ) → length xs ≡ 0 → xs ≡ []
none_of [] e = refl
none_of (x ∷ xs) e = absurd (omega arith)

-- the next of the places, or 0
pub next_place : (s t : Copied (Iter ℕ)) (r : Option ℕ) → copied_steps iter_steps s r t
    → (unwrap_or r 0 ≡ get_or (iter_rest (copied_source s)) 0 0) × (iter_rest (copied_source t) ≡ drop 1 (iter_rest (copied_source s)))
next_place s t r h = at h.0 h.1 h.2
  where
    at : (o : Option (Bor ℕ)) → iter_steps (copied_source s) o (copied_source t) → r ≡ option_copied o
        → (unwrap_or r 0 ≡ get_or (iter_rest (copied_source s)) 0 0) × (iter_rest (copied_source t) ≡ drop 1 (iter_rest (copied_source s)))
    at None st e =
        let none = none_of (iter_rest (copied_source s)) st.0 in
        (ap (λ o. unwrap_or o 0) e ∙ sym (ap (λ xs. get_or xs 0 0) none), ap iter_rest st.1 ∙ none ∙ sym (ap (drop 1) none))
    at (Some x) st e = (ap (λ o. unwrap_or o 0) e ∙ sym (ap (λ xs. get_or xs 0 0) st), sym (ap (drop 1) st))

-- the region, once all is laid
pub regional : (n b q : ℕ) (js : List g.Item) (w : Way) (y : Laying) (r : Region) → laid (fresh n []) js w ≡ y → end_of b w ≡ q
    → r ≡ put 0 b q y.region → r ≡ region_of n js b w
regional n b q js w y r e ended same = same ∙ (λ i. put 0 b (sym ended i) (sym e i).region)
