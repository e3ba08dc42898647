-- A piece taken as often as can be, and the items behind it. Assumes nothing.
use Rattle.std.proofs.Common.{◌≡◌, ℕ, zero, suc, ◌-◌, ◌≤◌, true, false, ◌||◌, List, ◌∷◌, length, is_some, Some, None, Option, sym, refl, ap, ◌∙◌, arith}
use Rattle.grammar.specs.Grammar as g
use Rattle.ways.specs.Match.{Way, step, then, else, from, most, run}
use Rattle.ways.proofs.Prefers.{step_on, step_within}

-- ===== steps up to the length of the line are enough
module _ (l : List ℕ) (x : g.Piece) (k : ℕ → Option Way) where
  fuel_at : (n m p : ℕ) (o : Option ℕ) → step l x p ≡ o → length l - p ≤ suc n → length l - p ≤ suc m
      → ((q : ℕ) → length l - q ≤ n → length l - q ≤ m → most (step l x) k n q ≡ most (step l x) k m q)
      → else (then o (most (step l x) k n)) (k p) ≡ else (then o (most (step l x) k m)) (k p)
  fuel_at n m p None e a b more = refl
  fuel_at n m p (Some q) e a b more =
      let on = step_on l x p q e in
      let in' = step_within l x p q e in
      ap (λ w. else w (k p)) (more q (omega arith) (omega arith))

  none_left : (n p : ℕ) → length l ≤ p → k p ≡ most (step l x) k n p
  none_left zero p le = refl
  none_left (suc n) p le = at (step l x p) refl
    where
      at : (o : Option ℕ) → step l x p ≡ o → k p ≡ else (then o (most (step l x) k n)) (k p)
      at None e = refl
      at (Some q) e = let in' = step_within l x p q e in absurd (omega arith)

  fuel : (n m p : ℕ) → length l - p ≤ n → length l - p ≤ m → most (step l x) k n p ≡ most (step l x) k m p
  fuel zero m p a b = none_left m p (omega arith)
  fuel (suc n) zero p a b = sym (none_left (suc n) p (omega arith))
  fuel (suc n) (suc m) p a b = fuel_at n m p (step l x p) refl a b (fuel n m)

  unfold_at : (n p : ℕ) → length l ≤ n → (o : Option ℕ) → step l x p ≡ o → most (step l x) k n p ≡ else (then o (most (step l x) k n)) (k p)
  unfold_at zero p le o e = at o e
    where
      at : (o : Option ℕ) → step l x p ≡ o → k p ≡ else (then o (most (step l x) k 0)) (k p)
      at None f = refl
      at (Some q) f = let in' = step_within l x p q f in absurd (omega arith)
  unfold_at (suc n) p le o e = ap (λ y. else (then y (most (step l x) k n)) (k p)) e ∙ at o e
    where
      at : (o : Option ℕ) → step l x p ≡ o → else (then o (most (step l x) k n)) (k p) ≡ else (then o (most (step l x) k (suc n))) (k p)
      at None f = refl
      at (Some q) f =
          let on = step_on l x p q f in
          let in' = step_within l x p q f in
          ap (λ w. else w (k p)) (fuel n (suc n) q (omega arith) (omega arith))

  -- one and as many more, or none
  pub most_unfolds : (p : ℕ) (o : Option ℕ) → step l x p ≡ o → most (step l x) k (length l) p ≡ else (then o (most (step l x) k (length l))) (k p)
  most_unfolds p o e = unfold_at (length l) p (omega arith) o e

-- ===== whether there is a way
pub some_from : (q : ℕ) (o : Option Way) → is_some (from q o) ≡ is_some o
some_from q None = refl
some_from q (Some w) = refl

some_else : (a b : Option Way) → is_some (else a b) ≡ (is_some a || is_some b)
some_else None b = refl
some_else (Some w) b = refl

pub none_of : (o : Option Way) → is_some o ≡ false → o ≡ None
none_of None e = refl
none_of (Some w) e = cc

pub else_some : (a b : Option Way) → is_some a ≡ true → else a b ≡ a
else_some None b e = cc
else_some (Some w) b e = refl

-- ===== the piece x before the items js, from p on
module _ (l : List ℕ) (x : g.Piece) (js : List g.Item) where
  abbrev pub Most : ℕ → Option Way
  Most p = run l (g.takes x g.many ∷ js) p

  -- where a step leads to q
  pub most_on : (p q : ℕ) → step l x p ≡ Some q → Most p ≡ else (Most q) (from p (run l js p))
  most_on p q e = most_unfolds l x (λ q. from q (run l js q)) p (Some q) e

  pub most_stops : (p : ℕ) → step l x p ≡ None → Most p ≡ from p (run l js p)
  most_stops p e = most_unfolds l x (λ q. from q (run l js q)) p None e

  -- once or more often, or none
  pub most_some : (p : ℕ) → is_some (Most p) ≡ (is_some (run l (g.takes x g.some ∷ js) p) || is_some (run l js p))
  most_some p =
      ap is_some (most_unfolds l x (λ q. from q (run l js q)) p (step l x p) refl)
      ∙ some_else (then (step l x p) Most) (from p (run l js p))
      ∙ ap (λ t. is_some (then (step l x p) Most) || t) (some_from p (run l js p))

  pub many_some : (p q : ℕ) → step l x p ≡ Some q → is_some (Most p) ≡ (is_some (Most q) || is_some (run l js p))
  many_some p q e =
      ap is_some (most_on p q e) ∙ some_else (Most q) (from p (run l js p)) ∙ ap (λ t. is_some (Most q) || t) (some_from p (run l js p))

  pub some_some : (p q : ℕ) → step l x p ≡ Some q → is_some (run l (g.takes x g.some ∷ js) p) ≡ (is_some (run l (g.takes x g.some ∷ js) q) || is_some (run l js q))
  some_some p q e = ap (λ o. is_some (then o Most)) e ∙ most_some q
