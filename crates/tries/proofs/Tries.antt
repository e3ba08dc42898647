-- What the tries of an alternative come to, one item on. Assumes nothing.
use Rattle.std.proofs.Common.{◌≡◌, ℕ, Result, Ok, Err, OnOk, OnErr, zero, suc, ◌+◌, ◌-◌, ◌<◌, ◌≤◌, true, false, eqb, ◌⊎◌, inl, inr, List, [], ◌∷◌, ◌++◌, length, take, drop, Some, None, Option, sym, refl, ap, ◌∙◌, subst, append_assoc, length-append, arith}
use Rattle.std.specs.Prelude.{reverse, is_some}
use Rattle.std.proofs.lemmas.Result.{IfOk-weaker}
use Rattle.std.proofs.lemmas.List.{append-nil, length-reverse, reverse-reverse}
use Rattle.std.proofs.lemmas.Grind.{reverse_onto, common_steps}
use Rattle.grammar.specs.declared.items.Piece.{Piece}
use Rattle.grammar.specs.declared.items.Times.{Times}
use Rattle.grammar.specs.declared.items.Times.TheVariants as u
use Rattle.grammar.specs.declared.items.Item.{Item}
use Rattle.grammar.specs.declared.items.Item.TheVariants as i
use Rattle.grammar.specs.declared.items.Items.{Items}
use Rattle.grammar.specs.Grammar as g
use Rattle.grammar.specs.Items.{IsPiece, IsItem, Written, Reads}
use Rattle.ways.specs.Match.{Way, step, at_end, then, else, from, most, run}
use Rattle.ways.specs.Meaning.{leading, end_of}
use Rattle.ways.specs.Matched.{is_bracket, brackets}
use Rattle.ways.specs.Pieces.{Steps, place_of}
use Rattle.ways.proofs.Prefers.{step_on, step_within}
use Rattle.ways.proofs.Reading.{none_written, seen_as, seen_times_as}
use Rattle.ways.specs.declared.cursor.Cursor.{Cursor}
use Rattle.ways.specs.declared.start.Start.{Start}
use Rattle.ways.specs.Starts.{Begins}
use Rattle.tries.specs.Tried.{Ends, EndsAt, Tried, TriedTimes, TriedMost, TriedBracket}

-- ===== as many steps as there can be: no more than what is left of the line
module _ (l : List ℕ) (x : g.Piece) (k : ℕ → Option Way) where
  fuel_at : (n m p : ℕ) (o : Option ℕ) → step l x p ≡ o → length l - p ≤ suc n → length l - p ≤ suc m
      → ((q : ℕ) → length l - q ≤ n → length l - q ≤ m → most (step l x) k n q ≡ most (step l x) k m q)
      → else (then o (most (step l x) k n)) (k p) ≡ else (then o (most (step l x) k m)) (k p)
  fuel_at n m p None e a b more = refl
  fuel_at n m p (Some q) e a b more =
      let on = step_on l x p q e in
      let in' = step_within l x p q e in
      ap (λ w. else w (k p)) (more q (omega arith) (omega arith))

  none_left : (n p : ℕ) → length l ≤ p → k p ≡ most (step l x) k n p
  none_left zero p le = refl
  none_left (suc n) p le = at (step l x p) refl
    where
      at : (o : Option ℕ) → step l x p ≡ o → k p ≡ else (then o (most (step l x) k n)) (k p)
      at None e = refl
      at (Some q) e = let in' = step_within l x p q e in absurd (omega arith)

  fuel : (n m p : ℕ) → length l - p ≤ n → length l - p ≤ m → most (step l x) k n p ≡ most (step l x) k m p
  fuel zero m p a b = none_left m p (omega arith)
  fuel (suc n) zero p a b = sym (none_left (suc n) p (omega arith))
  fuel (suc n) (suc m) p a b = fuel_at n m p (step l x p) refl a b (fuel n m)

  -- one and as many more, or none
  pub most_unfolds : (p : ℕ) → most (step l x) k (length l) p ≡ else (then (step l x p) (most (step l x) k (length l))) (k p)
  most_unfolds p = fuel (length l) (suc (length l)) p (omega arith) (omega arith)

-- ===== a way of as many as can be begins with where they end
from_filled : (q : ℕ) (o : Option Way) → from q o ≡ Some [] → ⊥
from_filled q None h = cc
from_filled q (Some w) h = cc

then_filled : (o : Option ℕ) (k : ℕ → Option Way) → ((q : ℕ) → k q ≡ Some [] → ⊥) → then o k ≡ Some [] → ⊥
then_filled None k more h = cc
then_filled (Some q) k more h = more q h

else_filled : (a b : Option Way) → (a ≡ Some [] → ⊥) → (b ≡ Some [] → ⊥) → else a b ≡ Some [] → ⊥
else_filled None b f g h = g h
else_filled (Some w) b f g h = f h

most_filled : (s : ℕ → Option ℕ) (k : ℕ → Option Way) (n p : ℕ) → most s (λ q. from q (k q)) n p ≡ Some [] → ⊥
most_filled s k zero p h = from_filled p (k p) h
most_filled s k (suc n) p h =
    else_filled (then (s p) (most s (λ q. from q (k q)) n)) (from p (k p))
    (then_filled (s p) (most s (λ q. from q (k q)) n) (most_filled s k n)) (from_filled p (k p)) h

-- ===== where items end, one item on
module _ (p : ℕ) (ms : List ℕ) where
  -- nothing is left to match
  pub leaf : Ends [] p (Some []) ms (Some p) ms
  leaf = ([], refl, refl, λ fits. sym (append-nil ms))

  -- an item that is no bracket ends at q
  pub on_item : (x : g.Item) (js : List g.Item) (q : ℕ) (o : Option Way) (r : Option ℕ) (ns : List ℕ) → is_bracket x ≡ false
      → Ends js q o ms r ns → Ends (x ∷ js) p (from q o) ms r ns
  on_item x js q o None ns plain h = (ap (from q) h.0, h.1)
  on_item x js q o (Some e) ns plain h = (q ∷ h.0, ap (from q) h.1, h.2, rw plain h.3)

  behind : (bs mid : List ℕ) → mid ≡ ms ++ reverse bs → mid ++ p ∷ [] ≡ ms ++ reverse (p ∷ bs)
  behind bs mid e =
      ap (λ ns. ns ++ p ∷ []) e ∙ append_assoc ms (reverse bs) (p ∷ []) ∙ ap (λ ns. ms ++ ns) (sym (reverse_onto bs p []))

  room : (bs mid : List ℕ) → mid ≡ ms ++ reverse bs → length ms + length (p ∷ bs) ≤ 30 → length mid < 30
  room bs mid e fits =
      let same : length mid ≡ length ms + length (reverse bs) = ap length e ∙ length-append ms (reverse bs) in
      let turned = length-reverse bs in
      omega arith

  pub on_bracket : (x : g.Item) (js : List g.Item) (o : Option Way) (e : ℕ) (mid ns : List ℕ) → is_bracket x ≡ true
      → Ends js p o ms (Some e) mid → (length mid < 30 → ns ≡ mid ++ p ∷ []) → Ends (x ∷ js) p (from p o) ms (Some e) ns
  on_bracket x js o e mid ns bracket h pushed = (
    p ∷ h.0,
    ap (from p) h.1,
    h.2,
    rw bracket (λ fits.
        let before : mid ≡ ms ++ reverse (brackets js h.0) = h.3 (omega arith) in
        pushed (room (brackets js h.0) mid before fits) ∙ behind (brackets js h.0) mid before),
  )

  -- a bracket whose place is noted behind those of the items after it, where these match
  abbrev pub Noted : Option ℕ → List ℕ → List ℕ → Type 0
  Noted None mid ns = ns ≡ mid
  Noted (Some e) mid ns = length mid < 30 → ns ≡ mid ++ p ∷ []

  pub on_bracket_noted : (x : g.Item) (js : List g.Item) (o : Option Way) (r : Option ℕ) (mid ns : List ℕ) → is_bracket x ≡ true
      → Ends js p o ms r mid → Noted r mid ns → Ends (x ∷ js) p (from p o) ms r ns
  on_bracket_noted x js o None mid ns bracket h same = (ap (from p) h.0, same ∙ h.1)
  on_bracket_noted x js o (Some e) mid ns bracket h pushed = on_bracket x js o e mid ns bracket h pushed

  -- what was tried first failed, and another try follows
  pub tried_again : (js : List g.Item) (a b : Option Way) (mid ns : List ℕ) (r : Option ℕ) → Ends js p a ms None mid
      → Ends js p b mid r ns → Ends js p (else a b) ms r ns
  tried_again js a b mid ns r h k = rw h.0 (rw h.1 at k)

  -- what was tried first did not fail
  pub tried_once : (js : List g.Item) (a b : Option Way) (e : ℕ) (ns : List ℕ) → Ends js p a ms (Some e) ns
      → Ends js p (else a b) ms (Some e) ns
  tried_once js a b e ns h = (h.0, ap (λ o. else o b) h.1, h.2, h.3)

  -- a way with a place to it from q on is also one from an earlier place, however often the piece is taken
  earlier_by : (x : g.Piece) (v w : g.Times) (js : List g.Item) (q : ℕ) (o : Option Way) (r : Option ℕ) (ns : List ℕ)
      → (o ≡ Some [] → ⊥)
      → Ends (g.takes x w ∷ js) q o ms r ns → Ends (g.takes x v ∷ js) p o ms r ns
  earlier_by x v w js q o None ns filled h = h
  earlier_by x v w js q o (Some e) ns filled h = at h.0 h.1 h.2 h.3
    where
      at : (way : Way) → o ≡ Some way → end_of q way ≡ e
          → (length ms + length (brackets (g.takes x w ∷ js) way) ≤ 30 → ns ≡ ms ++ reverse (brackets (g.takes x w ∷ js) way)) → Ends (g.takes x v ∷ js) p o ms (Some e) ns
      at [] is ended noted = absurd (filled is)
      at (a ∷ way) is ended noted = (a ∷ way, is, ended, noted)

  pub earlier : (l : List ℕ) (x : g.Piece) (v : g.Times) (js : List g.Item) (q : ℕ) (r : Option ℕ) (ns : List ℕ)
      → Ends (g.takes x g.many ∷ js) q (run l (g.takes x g.many ∷ js) q) ms r ns
      → Ends (g.takes x v ∷ js) p (run l (g.takes x g.many ∷ js) q) ms r ns
  earlier l x v js q r ns h =
      earlier_by x v g.many js q (run l (g.takes x g.many ∷ js) q) r ns (most_filled (step l x) (run l js) (length l) q) h

-- a way that goes on from a cursor q of the same line
pub on_item_at : (at q : Cursor) (ms : List ℕ) (x : g.Item) (js : List g.Item) (r : Option ℕ) (ns : List ℕ) → is_bracket x ≡ false
    → q.line.now ≡ at.line.now → EndsAt q js ms r ns → Ends (x ∷ js) at.place (from q.place (run at.line.now js q.place)) ms r ns
on_item_at at q ms x js r ns plain same h = on_item at.place ms x js q.place (run at.line.now js q.place) r ns plain (rw same at h)

earlier_at : (at q : Cursor) (ms : List ℕ) (x : g.Piece) (v : g.Times) (js : List g.Item) (r : Option ℕ) (ns : List ℕ)
    → q.line.now ≡ at.line.now → EndsAt q (g.takes x g.many ∷ js) ms r ns
    → Ends (g.takes x v ∷ js) at.place (run at.line.now (g.takes x g.many ∷ js) q.place) ms r ns
earlier_at at q ms x v js r ns same h =
    earlier at.place ms at.line.now x v js q.place r ns
    (subst (λ l. Ends (g.takes x g.many ∷ js) q.place (run l (g.takes x g.many ∷ js) q.place) ms r ns) same h)

-- ===== the items
module _ {items : Items} {at : Cursor} {ms : List ℕ} where
  -- nothing is left of the expression
  pub ends : Reads items.rest.now None → Tried items at ms (Some at.place) ms
  ends reads = record { ends = λ is w. rw (none_written items.rest.now reads is w) (leaf at.place ms) }

  module _ {item : Item} {others : Items} (reads : Reads items.rest.now (Some (item, others))) where
    -- by the first item, and the others
    by_first : (r : Option ℕ) (ns : List ℕ)
        → ((y : g.Item) (is : List g.Item) → IsItem item y → Written others.rest.now is → EndsAt at (leading (y ∷ is)) ms r ns)
        → Tried items at ms r ns
    by_first r ns go = record { ends = by }
      where
        by : (is : List g.Item) → Written items.rest.now is → EndsAt at (leading is) ms r ns
        by [] w = absurd (reads [] w)
        by (y ∷ is) w = let h = reads (y ∷ is) w in go y is h.0 h.1

    pub takes : {r : Option ℕ} {ns : List ℕ} {t : Piece} {v : Times} → TriedTimes t v others at ms r ns → item ≡ i.Take t v
        → Tried items at ms r ns
    takes {r} {ns} {t} {v} tried same = by_first r ns (λ y is h w.
        let s = seen_as item (i.Take t v) y same h in rw s.2 (tried.ends s.0 s.1 is s.3 s.4 w))

    -- the alternative ends at a bar
    pub bars : item ≡ i.Bar → Tried items at ms (Some at.place) ms
    bars same = by_first (Some at.place) ms (λ y is h w. rw (seen_as item i.Bar y same h) (leaf at.place ms))

    pub starts : {r : Option ℕ} {ns : List ℕ} → Tried others at ms r ns → item ≡ i.Start → eqb at.place 0 ≡ true
        → Tried items at ms r ns
    starts {r} {ns} tried same holds = by_first r ns (λ y is h w.
        rw (seen_as item i.Start y same h, holds) (on_item_at at at ms g.start (leading is) r ns refl refl (tried.ends is w)))

    pub ends_line : {r : Option ℕ} {ns : List ℕ} → Tried others at ms r ns → item ≡ i.End → at_end at.line.now at.place ≡ true
        → Tried items at ms r ns
    ends_line {r} {ns} tried same holds = by_first r ns (λ y is h w.
        rw (seen_as item i.End y same h, holds) (on_item_at at at ms g.end (leading is) r ns refl refl (tried.ends is w)))

    -- an item that takes nothing, and does not hold here
    pub not_here : ((item ≡ i.Start) × (eqb at.place 0 ≡ false)) ⊎ (((item ≡ i.End) × (at_end at.line.now at.place ≡ false)) ⊎ (item ≡ i.Never))
        → Tried items at ms None ms
    not_here (inl h) = by_first None ms (λ y is seen w. (rw (seen_as item i.Start y h.0 seen, h.1), refl))
    not_here (inr (inl h)) = by_first None ms (λ y is seen w. (rw (seen_as item i.End y h.0 seen, h.1), refl))
    not_here (inr (inr h)) = by_first None ms (λ y is seen w. (rw (seen_as item i.Never y h seen).1, refl))

    -- a bracket
    pub by_bracket : {r : Option ℕ} {ns : List ℕ} → TriedBracket others at ms r ns → (item ≡ i.Open) ⊎ (item ≡ i.Close)
        → Tried items at ms r ns
    by_bracket {r} {ns} tried (inl same) = by_first r ns (λ y is h w. rw (seen_as item i.Open y same h) (tried.ends g.opens is refl w))
    by_bracket {r} {ns} tried (inr same) = by_first r ns (λ y is h w. rw (seen_as item i.Close y same h) (tried.ends g.closes is refl w))

-- ===== the brackets
bracket_runs : (l : List ℕ) (x : g.Item) (js : List g.Item) (p : ℕ) → is_bracket x ≡ true → run l (x ∷ js) p ≡ from p (run l js p)
bracket_runs l (g.takes x t) js p h = cc
bracket_runs l g.start js p h = cc
bracket_runs l g.end js p h = cc
bracket_runs l (g.never d) js p h = cc
bracket_runs l g.opens js p h = refl
bracket_runs l g.closes js p h = refl
bracket_runs l g.bar js p h = cc

module _ {items : Items} {at : Cursor} {ms mid ns : List ℕ} where
  noted : (r : Option ℕ) → Tried items at ms r mid → Noted at.place ms r mid ns → TriedBracket items at ms r ns
  noted r tried push = record {
    ends = λ x is bracket w.
        rw (bracket_runs at.line.now x (leading is) at.place bracket)
        (on_bracket_noted at.place ms x (leading is) (run at.line.now (leading is) at.place) r mid ns bracket (tried.ends is w) push);
  }

  pub bracket_noted : {T E : Type 0} {r : Option ℕ} {ks : List ℕ} (pushed : Result T E) → Tried items at ms r mid
      → is_some r ≡ true
      → OnOk pushed (ks ≡ mid ++ at.place ∷ []) → OnErr pushed (length mid ≡ 30) → ns ≡ ks
      → TriedBracket items at ms r ns
  bracket_noted {r = r} {ks = ks} pushed tried some ok full same = noted r tried (push r pushed some ok full)
    where
      push : {T E : Type 0} (r : Option ℕ) (pushed : Result T E) → is_some r ≡ true
          → OnOk pushed (ks ≡ mid ++ at.place ∷ []) → OnErr pushed (length mid ≡ 30) → Noted at.place ms r mid ns
      push None pushed some ok full = cc
      push (Some e) (Ok x) some ok full = λ fits. same ∙ ok
      push (Some e) (Err x) some ok full = λ fits. absurd (omega arith)

  pub bracket_left : {r : Option ℕ} → Tried items at ms r mid → is_some r ≡ false → ns ≡ mid → TriedBracket items at ms r ns
  bracket_left {r} tried none same = noted r tried (push r none)
    where
      push : (r : Option ℕ) → is_some r ≡ false → Noted at.place ms r mid ns
      push None none = same
      push (Some e) none = cc

-- ===== the repeats
step_is : (t : Piece) (at : Cursor) (o : Option Cursor) (x : g.Piece) → Steps t at.line.now at.place o → IsPiece t x
    → step at.line.now x at.place ≡ place_of o
step_is t at o x steps piece = sym (steps x piece)

-- the piece does not take what is there, and is not left out
pub none_taken : {t : Piece} {times : Times} {items : Items} {at : Cursor} {ms : List ℕ} → (times ≡ u.Once) ⊎ (times ≡ u.Some) → Steps t at.line.now at.place None
    → TriedTimes t times items at ms None ms
none_taken {t} {times} {at = at} (inl is) steps = record {
  ends = λ x v js piece read w. rw (seen_times_as times u.Once v is read, step_is t at None x steps piece) (refl, refl);
}
none_taken {t} {times} {at = at} (inr is) steps = record {
  ends = λ x v js piece read w. rw (seen_times_as times u.Some v is read, step_is t at None x steps piece) (refl, refl);
}

module _ {t : Piece} {items : Items} {at : Cursor} {ms : List ℕ} {r : Option ℕ} {ns : List ℕ} where
  -- after a step to q
  module _ {q : Cursor} (steps : Steps t at.line.now at.place (Some q)) (same : q.line.now ≡ at.line.now) where
    pub once_on : {times : Times} → Tried items q ms r ns → times ≡ u.Once → TriedTimes t times items at ms r ns
    once_on {times} tried is = record {
      ends = λ x v js piece read w.
          rw (seen_times_as times u.Once v is read, step_is t at (Some q) x steps piece)
          (on_item_at at q ms (g.takes x g.once) (leading js) r ns refl same (tried.ends js w));
    }

    pub some_on : {times : Times} → TriedMost t items q ms r ns → times ≡ u.Some → TriedTimes t times items at ms r ns
    some_on {times} tried is = record {
      ends = λ x v js piece read w.
          rw (seen_times_as times u.Some v is read, step_is t at (Some q) x steps piece)
          (earlier_at at q ms x g.some (leading js) r ns same (tried.ends x js piece w));
    }

    pub maybe_first : {times : Times} {e : ℕ} → Tried items q ms r ns → r ≡ Some e → times ≡ u.Maybe
        → TriedTimes t times items at ms (Some e) ns
    maybe_first {times} {e} tried found is = record {
      ends = λ x v js piece read w.
          rw (seen_times_as times u.Maybe v is read, step_is t at (Some q) x steps piece)
          (tried_once at.place ms (g.takes x g.maybe ∷ leading js) _ _ e ns
          (on_item_at at q ms (g.takes x g.maybe) (leading js) (Some e) ns refl same (rw found at tried.ends js w)));
    }

    pub maybe_again : {times : Times} {mid : List ℕ} {first : Option ℕ} → Tried items at mid r ns → Tried items q ms first mid
        → first ≡ None → times ≡ u.Maybe → TriedTimes t times items at ms r ns
    maybe_again {times} {mid} again tried none is = record {
      ends = λ x v js piece read w.
          rw (seen_times_as times u.Maybe v is read, step_is t at (Some q) x steps piece)
          (tried_again at.place ms (g.takes x g.maybe ∷ leading js) _ _ mid ns r
          (on_item_at at q ms (g.takes x g.maybe) (leading js) None mid refl same (rw none at tried.ends js w))
          (on_item_at at at mid (g.takes x g.maybe) (leading js) r ns refl refl (again.ends js w)));
    }

    pub most_first : {e : ℕ} → TriedMost t items q ms r ns → r ≡ Some e → TriedMost t items at ms (Some e) ns
    most_first {e} tried found = record {
      ends = λ x js piece w.
          rw (most_unfolds at.line.now x (λ p. from p (run at.line.now (leading js) p)) at.place, step_is t at (Some q) x steps piece)
          (tried_once at.place ms (g.takes x g.many ∷ leading js) _ _ e ns
          (earlier_at at q ms x g.many (leading js) (Some e) ns same (rw found at tried.ends x js piece w)));
    }

    pub most_again : {mid ks : List ℕ} {first : Option ℕ} → Tried items at ks r ns → TriedMost t items q ms first mid
        → ks ≡ mid → first ≡ None → TriedMost t items at ms r ns
    most_again {mid} again tried kept none = record {
      ends = λ x js piece w.
          rw (most_unfolds at.line.now x (λ p. from p (run at.line.now (leading js) p)) at.place, step_is t at (Some q) x steps piece)
          (tried_again at.place ms (g.takes x g.many ∷ leading js) _ _ mid ns r
          (earlier_at at q ms x g.many (leading js) None mid same (rw none at tried.ends x js piece w))
          (on_item_at at at mid (g.takes x g.many) (leading js) r ns refl refl (rw kept at again.ends js w)));
    }

  -- the piece does not take what is there
  pub maybe_none : {times : Times} → Tried items at ms r ns → times ≡ u.Maybe → Steps t at.line.now at.place None
      → TriedTimes t times items at ms r ns
  maybe_none {times} tried is steps = record {
    ends = λ x v js piece read w.
        rw (seen_times_as times u.Maybe v is read, step_is t at None x steps piece)
        (on_item_at at at ms (g.takes x g.maybe) (leading js) r ns refl refl (tried.ends js w));
  }

  pub most_none : {ks : List ℕ} → Tried items at ks r ns → ks ≡ ms → Steps t at.line.now at.place None
      → TriedMost t items at ms r ns
  most_none tried kept steps = record {
    ends = λ x js piece w.
        rw (most_unfolds at.line.now x (λ p. from p (run at.line.now (leading js) p)) at.place, step_is t at None x steps piece)
        (on_item_at at at ms (g.takes x g.many) (leading js) r ns refl refl (rw kept at tried.ends js w));
  }

  pub many_on : {times : Times} → TriedMost t items at ms r ns → times ≡ u.Many → TriedTimes t times items at ms r ns
  many_on {times} tried is = record {
    ends = λ x v js piece read w.
        rw (seen_times_as times u.Many v is read) (tried.ends x js piece w);
  }

-- ===== the match of an alternative
begin_written : (e : List ℕ) (s : Start) (is : List g.Item) → Begins e s is → Written s.items.rest.now is
begin_written e s is begins = record { opened = s.opened; depth = 0; good = begins.good; written = begins.written }

-- the brackets that were noted, the other way round
reversed : (js : List g.Item) (p q : ℕ) (o : Option Way) (ns : List ℕ) → Ends js p o [] (Some q) ns
    → (w : Way) × (o ≡ Some w) × (end_of p w ≡ q) × (length (brackets js w) ≤ 30 → reverse ns ≡ brackets js w)
reversed js p q o ns h = (h.0, h.1, h.2, λ fits. ap reverse (h.3 (omega arith)) ∙ reverse-reverse (brackets js h.0))

module _ {e : List ℕ} {s : Start} {at : Cursor} {is : List g.Item} {ms ns : List ℕ} {r : Option ℕ} where
  pub none_found : Begins e s is → Tried s.items at ms r ns → r ≡ None → run at.line.now (leading is) at.place ≡ None
  none_found begins tried none =
      let to_none : Tried s.items at ms None ns = rw none at tried in
      (to_none.ends is (begin_written e s is begins)).0

  pub found : {q : ℕ} → Begins e s is → Tried s.items at ms r ns → r ≡ Some q → ms ≡ []
      → (w : Way) × (run at.line.now (leading is) at.place ≡ Some w) × (end_of at.place w ≡ q) × (length (brackets (leading is) w) ≤ 30 → reverse ns ≡ brackets (leading is) w)
  found {q} begins tried some empty =
      let to_q : Tried s.items at [] (Some q) ns = rw (some, empty) at tried in
      reversed (leading is) at.place q (run at.line.now (leading is) at.place) ns (to_q.ends is (begin_written e s is begins))

-- a list that was written over by as many
pub refilled : (xs ys : List ℕ) → length ys ≡ length xs → take (length xs) (ys ++ drop (length ys) xs) ≡ ys
refilled xs ys e = grind (arith, common_steps)

-- what the answers of the repeats come from
pub ruleset repeats = (IfOk-weaker, most_first, most_again, most_none)
