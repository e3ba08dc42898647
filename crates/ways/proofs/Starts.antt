-- From the begin of one alternative to that of the next. Assumes nothing.
use Rattle.std.proofs.Common.{◌≡◌, ℕ, ◌+◌, ◌-◌, Bool, true, false, cond, List, [], ◌∷◌, ◌++◌, drop, Some, None, sym, refl, ap, ◌∙◌, subst, append_assoc, arith}
use Rattle.std.proofs.lemmas.List.{drop-drop, append-nil}
use Rattle.grammar.specs.declared.items.Item.{Item}
use Rattle.grammar.specs.declared.items.Item.TheVariants as tok
use Rattle.grammar.specs.Grammar as g
use Rattle.grammar.specs.declared.items.Items.{Items}
use Rattle.grammar.specs.Items.{IsItem, Written, Reads}
use Rattle.grammar.specs.Parse.{items}
use Rattle.ways.specs.declared.start.Start.{Start}
use Rattle.ways.specs.Meaning.{is_bar, onto, leading, alternatives, opening, pairs}
use Rattle.ways.specs.Starts.{Begins, After}
use Rattle.ways.proofs.Reading.{First, first, none_written, seen_as}

-- front put before the first alternative
abbrev pub on_front : List g.Item → List (List g.Item) → List (List g.Item)
on_front front [] = front ∷ []
on_front front (a ∷ more) = (front ++ a) ∷ more

on_front_onto : (front : List g.Item) (y : g.Item) (alts : List (List g.Item)) → on_front front (onto y alts) ≡ on_front (front ++ (y ∷ [])) alts
on_front_onto front y [] = refl
on_front_onto front y (a ∷ more) = ap (λ b. b ∷ more) (sym (append_assoc front (y ∷ []) a))

pairs_more : (front : List g.Item) (y : g.Item) → pairs (front ++ (y ∷ [])) ≡ pairs front + opening y
pairs_more [] y = omega arith
pairs_more (x ∷ front) y = ap (λ n. opening x + n) (pairs_more front y) ∙ omega arith

-- an alternative began at s with the items is; front was read of them, and tail is left, written so, behind n items of e, with o
-- brackets opened
pub record Passed (e : List ℕ) (s : Start) (is : List g.Item) (bytes : List ℕ) (n o : ℕ) (tail : List g.Item) : Type 0 where
  pub front : List g.Item
  pub depth : ℕ
  pub good : g.Good o depth tail
  pub written : g.written tail ≡ bytes
  pub rest : tail ≡ drop n (items e)
  pub opened : o ≡ s.opened + pairs front
  pub leads : leading is ≡ front ++ leading tail
  pub parts : alternatives is ≡ on_front front (alternatives tail)

alternatives_some : (is : List g.Item) → (a : List g.Item) × (more : List (List g.Item)) × (alternatives is ≡ a ∷ more)
alternatives_some [] = ([], [], refl)
alternatives_some (x ∷ is) = at (is_bar x)
  where
    onto_some : (alts : List (List g.Item)) → (a : List g.Item) × (more : List (List g.Item)) × (onto x alts ≡ a ∷ more)
    onto_some [] = (x ∷ [], [], refl)
    onto_some (a ∷ more) = (x ∷ a, more, refl)

    at : (t : Bool) → (a : List g.Item) × (more : List (List g.Item)) × (cond t ([] ∷ alternatives is) (onto x (alternatives is)) ≡ a ∷ more)
    at true = ([], alternatives is, refl)
    at false = onto_some (alternatives is)

module _ {e : List ℕ} {s : Start} {is : List g.Item} where
  pub begun : Begins e s is → Passed e s is s.items.rest.now s.nth s.opened is
  begun b = let a = alternatives_some is in record {
    front = [];
    depth = 0;
    good = b.good;
    written = b.written;
    rest = b.rest;
    opened = omega arith;
    leads = refl;
    parts = a.2 ∙ sym (ap (on_front []) a.2);
  }

  module _ {bytes : List ℕ} {n o : ℕ} {tail : List g.Item} (h : Passed e s is bytes n o tail) where
    -- the items that are left
    pub left : Written bytes tail
    left = record { opened = o; depth = h.depth; good = h.good; written = h.written }

    pub ended : Reads bytes None → alternatives is ≡ leading is ∷ []
    ended reads =
        let none = none_written bytes reads tail left in
        h.parts ∙ ap (λ js. on_front h.front (alternatives js)) none ∙ ap (λ b. b ∷ []) (sym (h.leads ∙ ap (λ js. h.front ++ leading js) none))

    module _ (item : Item) (others : Items) (reads : Reads bytes (Some (item, others))) where
      pub read : First item others tail
      read = first bytes item others reads tail left

      behind : (y : g.Item) → read.head ≡ y → (tail ≡ y ∷ read.tail) × g.Good o h.depth (y ∷ read.tail)
      behind y same = let split : tail ≡ y ∷ read.tail = read.split ∙ ap (λ z. z ∷ read.tail) same in (split, subst (g.Good o h.depth) split h.good)

      tail_rest : read.tail ≡ drop (n + 1) (items e)
      tail_rest = ap (drop 1) (sym read.split ∙ h.rest) ∙ drop-drop 1 n (items e)

      pub at_bar : (t : Start) → t.items ≡ others → t.nth ≡ n + 1 → t.opened ≡ o → item ≡ tok.Bar → After e s is (Some t)
      at_bar t ti tn to bar =
          let b = behind g.bar (seen_as item tok.Bar read.head bar read.here) in
          let lead : leading is ≡ h.front = h.leads ∙ ap (λ js. h.front ++ leading js) b.0 ∙ append-nil h.front in
          let good : g.Good t.opened 0 read.tail = subst (λ (k : ℕ). g.Good k 0 read.tail) (sym to) (subst (λ (d : ℕ). g.Good o d read.tail) b.1.0 b.1.1) in (
            read.tail,
            record { good = good; written = read.behind.written ∙ ap (λ r. r.rest.now) (sym ti); rest = tail_rest ∙ ap (λ (k : ℕ). drop k (items e)) (sym tn) },
            h.parts ∙ ap (λ js. on_front h.front (alternatives js)) b.0 ∙ ap (λ f. f ∷ alternatives read.tail) (append-nil h.front ∙ sym lead),
            to ∙ h.opened ∙ ap (λ js. s.opened + pairs js) (sym lead),
          )

      passing : (y : g.Item) (d : ℕ) → read.head ≡ y → is_bar y ≡ false → g.Good (o + opening y) d read.tail → Passed e s is others.rest.now (n + 1) (o + opening y) read.tail
      passing y d same plain good =
          let split = (behind y same).0 in
          let lead : leading tail ≡ y ∷ leading read.tail = ap leading split ∙ ap (λ c. cond c [] (y ∷ leading read.tail)) plain in
          let part : alternatives tail ≡ onto y (alternatives read.tail) = ap alternatives split ∙ ap (λ c. cond c ([] ∷ alternatives read.tail) (onto y (alternatives read.tail))) plain in
          let more = pairs_more h.front y in
          record {
            front = h.front ++ (y ∷ []);
            depth = d;
            good = good;
            written = read.behind.written;
            rest = tail_rest;
            opened = omega (arith, h.opened);
            leads = h.leads ∙ ap (λ js. h.front ++ js) lead ∙ sym (append_assoc h.front (y ∷ []) (leading read.tail));
            parts = h.parts ∙ ap (on_front h.front) part ∙ on_front_onto h.front y (alternatives read.tail);
          }

      pub at_open : item ≡ tok.Open → Passed e s is others.rest.now (n + 1) (o + 1) read.tail
      at_open open' = let same = seen_as item tok.Open read.head open' read.here in passing g.opens (h.depth + 1) same refl (behind g.opens same).1.1

      -- an item that opens no bracket
      quiet : (y : g.Item) (d : ℕ) → read.head ≡ y → is_bar y ≡ false → opening y ≡ 0 → g.Good o d read.tail → Passed e s is others.rest.now (n + 1) o read.tail
      quiet y d same plain none good =
          let sum : o + opening y ≡ o = omega arith in
          subst (λ (k : ℕ). Passed e s is others.rest.now (n + 1) k read.tail) sum (passing y d same plain (subst (λ (k : ℕ). g.Good k d read.tail) (sym sum) good))

      other_as : (y : g.Item) → read.head ≡ y → (item ≡ tok.Bar → ⊥) → (item ≡ tok.Open → ⊥) → IsItem item y → Passed e s is others.rest.now (n + 1) o read.tail
      other_as (g.takes x v) same nb no' tk = quiet (g.takes x v) h.depth same refl refl (behind (g.takes x v) same).1.1
      other_as g.start same nb no' tk = quiet g.start h.depth same refl refl (behind g.start same).1
      other_as g.end same nb no' tk = quiet g.end h.depth same refl refl (behind g.end same).1
      other_as (g.never d) same nb no' tk = quiet (g.never d) h.depth same refl refl (behind (g.never d) same).1.1
      other_as g.opens same nb no' tk = absurd (no' tk)
      other_as g.closes same nb no' tk = quiet g.closes (h.depth - 1) same refl refl (behind g.closes same).1.1
      other_as g.bar same nb no' tk = absurd (nb tk)

      pub at_other : (item ≡ tok.Bar → ⊥) → (item ≡ tok.Open → ⊥) → Passed e s is others.rest.now (n + 1) o read.tail
      at_other nb no' = other_as read.head refl nb no' read.here
