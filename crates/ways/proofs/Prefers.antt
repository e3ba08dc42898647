-- The first match is the preferred one. Assumes nothing.
use Rattle.std.proofs.Common.{◌≡◌, ℕ, zero, suc, ◌+◌, ◌-◌, ◌<◌, ◌≤◌, Bool, true, false, cond, eqb, List, [], ◌∷◌, length, drop, Some, None, Option, sym, refl, ap, ◌∙◌, subst, inl, inr, ⊎_elim, arith}
use Rattle.std.specs.Char.{len_utf8}
use Rattle.std.specs.Str.{chars}
use Rattle.std.proofs.lemmas.List.{drop_all}
use Rattle.std.proofs.lemmas.Str.{len_utf8_bounds, chars-nil}
use Rattle.std.proofs.lemmas.Bool.{eqb-true, eq-eqb, cases_lt, false≢true}
use Rattle.grammar.specs.Grammar.{Piece, Times, once, maybe, many, some, Item, takes, start, end, never, opens, closes, bar}
use Rattle.ways.specs.Match.{Way, accepts, past, step, at_end, then, else, when, from, most, run}
use Rattle.ways.specs.Ways.{Row, Leads, Fits, NoFurther, Best, Preferred}

-- ===== a step goes on, and begins within the line
past_on : (x : Piece) (p q : ℕ) (cs : List ℕ) → past x p cs ≡ Some q → p < q
past_on x p q [] h = let z : ◌≡◌ {A = ℕ} 0 1 = cc in absurd (omega arith)
past_on x p q (c ∷ cs) h = at (accepts x c) h
  where
    at : (t : Bool) → cond t (Some (p + len_utf8 c)) None ≡ Some q → p < q
    at true e = let w = len_utf8_bounds c in let s : p + len_utf8 c ≡ q = cc in omega (arith, w.0)
    at false e = let z : ◌≡◌ {A = ℕ} 0 1 = cc in absurd (omega arith)

pub step_on : (l : List ℕ) (x : Piece) (p q : ℕ) → step l x p ≡ Some q → p < q
step_on l x p q h = past_on x p q (chars (drop p l)) h

pub step_within : (l : List ℕ) (x : Piece) (p q : ℕ) → step l x p ≡ Some q → p < length l
step_within l x p q h =
    ⊎_elim (λ lt. lt)
    (λ le. let none : step l x p ≡ None = ap (past x p) (ap chars (drop_all p l le) ∙ chars-nil) in let z : ◌≡◌ {A = ℕ} 0 1 = cc in absurd (omega arith))
    (cases_lt p (length l))

row_on : (s : ℕ → Option ℕ) → ((p m : ℕ) → s p ≡ Some m → p < m) → (n p q : ℕ) → Row s n p q → p ≤ q
row_on s grows zero p q r = omega arith
row_on s grows (suc n) p q r = let a = grows p r.0 r.1 in let b = row_on s grows n r.0 q r.2 in omega arith

-- a row is no longer than what is left of the line
row_short : (l : List ℕ) (x : Piece) (n p q : ℕ) → Row (step l x) n p q → n ≤ length l - p
row_short l x zero p q r = omega arith
row_short l x (suc n) p q r =
    let a = step_on l x p r.0 r.1 in
    let w = step_within l x p r.0 r.1 in
    let b = row_short l x n r.0 q r.2 in omega arith

-- ===== one allowance in the place of another
best_like : (P Q : Way → Type 0) → ((w : Way) → P w → Q w) → ((w : Way) → Q w → P w) → (o : Option Way) → Best P o → Best Q o
best_like P Q to back None h = λ w q. h w (back w q)
best_like P Q to back (Some w) h = (to w h.0, λ v q. h.1 v (back v q))

-- at most n steps, and then R
abbrev UpTo : (ℕ → Option ℕ) → (ℕ → Way → Type 0) → ℕ → ℕ → Way → Type 0
UpTo s R n p [] = ⊥
UpTo s R n p (q ∷ w) = (c : ℕ) × (c ≤ n) × Row s c p q × R q w

-- one step first, at most n more, and then R
abbrev OneAnd : (ℕ → Option ℕ) → (ℕ → Way → Type 0) → ℕ → ℕ → Way → Type 0
OneAnd s R n p [] = ⊥
OneAnd s R n p (q ∷ w) = (c : ℕ) × (c ≤ n) × Row s (suc c) p q × R q w

-- no step, where C holds, and then R
abbrev Still : (ℕ → Way → Type 0) → Type 0 → ℕ → Way → Type 0
Still R C p [] = ⊥
Still R C p (q ∷ w) = ((p ≡ q) × C) × R q w

module _ (s : ℕ → Option ℕ) (grows : (p m : ℕ) → s p ≡ Some m → p < m) (k : ℕ → Option Way) (R : ℕ → Way → Type 0) (good : (q : ℕ) → Best (R q) (k q)) where
  abbrev on : ℕ → Option Way
  on q = from q (k q)

  -- no step, where one is ruled out
  stays : (n p : ℕ) (o : Option Way) → Best (R p) o → ((c q : ℕ) (w : Way) → c ≤ n → 1 ≤ c → Row s c p q → R q w → ⊥) → Best (UpTo s R n p) (from p o)
  stays n p None h barred = go
    where
      go : (w : Way) → UpTo s R n p w → ⊥
      go [] u = u
      go (q ∷ w) u = at u.0 u.1 u.2
        where
          at : (c : ℕ) → c ≤ n → Row s c p q → ⊥
          at zero le r = h w (subst (λ (y : ℕ). R y w) (sym r) u.3)
          at (suc c) le r = barred (suc c) q w le (omega arith) r u.3
  stays n p (Some v) h barred = ((0, omega arith, refl, h.0), go)
    where
      go : (w : Way) → UpTo s R n p w → NoFurther w (p ∷ v)
      go [] u = tt
      go (q ∷ w) u = at u.0 u.1 u.2
        where
          at : (c : ℕ) → c ≤ n → Row s c p q → NoFurther (q ∷ w) (p ∷ v)
          at zero le r = inr (sym r, h.1 w (subst (λ (y : ℕ). R y w) (sym r) u.3))
          at (suc c) le r = absurd (barred (suc c) q w le (omega arith) r u.3)

  -- a step to m, and the rest from there
  goes : (n p m : ℕ) → s p ≡ Some m → (o : Option Way) → Best (UpTo s R n m) o → Best (UpTo s R (suc n) p) (else o (on p))
  goes n p m e None h = stays (suc n) p (k p) (good p) barred
    where
      barred : (c q : ℕ) (w : Way) → c ≤ suc n → 1 ≤ c → Row s c p q → R q w → ⊥
      barred zero q w le one r a = omega arith
      barred (suc c) q w le one r a =
          let same : r.0 ≡ m = let f = r.1 in cc in
          h (q ∷ w) (c, omega arith, subst (λ (y : ℕ). Row s c y q) same r.2, a)
  goes n p m e (Some []) h = absurd h.0
  goes n p m e (Some (q ∷ w)) h = ((suc h.0.0, omega (arith, h.0.1), (m, e, h.0.2), h.0.3), go)
    where
      further : m ≤ q
      further = row_on s grows h.0.0 m q h.0.2

      go : (v : Way) → UpTo s R (suc n) p v → NoFurther v (q ∷ w)
      go [] u = tt
      go (r ∷ v) u = at u.0 u.1 u.2
        where
          at : (c : ℕ) → c ≤ suc n → Row s c p r → NoFurther (r ∷ v) (q ∷ w)
          at zero le row = let a = grows p m e in inl (omega (arith, further, row))
          at (suc c) le row =
              let same : row.0 ≡ m = let f = row.1 in cc in
              h.1 (r ∷ v) (c, omega arith, subst (λ (y : ℕ). Row s c y r) same row.2, u.3)

  most_at : (n p : ℕ) (o : Option ℕ) → s p ≡ o → ((q : ℕ) → Best (UpTo s R n q) (most s on n q)) → Best (UpTo s R (suc n) p) (else (then o (most s on n)) (on p))
  most_at n p None e more = stays (suc n) p (k p) (good p) barred
    where
      barred : (c q : ℕ) (w : Way) → c ≤ suc n → 1 ≤ c → Row s c p q → R q w → ⊥
      barred zero q w le one r a = omega arith
      barred (suc c) q w le one r a = let f = r.1 in let z : ◌≡◌ {A = ℕ} 0 1 = cc in omega arith
  most_at n p (Some m) e more = goes n p m e (most s on n m) (more m)

  pub most_best : (n p : ℕ) → Best (UpTo s R n p) (most s on n p)
  most_best zero p = stays 0 p (k p) (good p) (λ c q w le one r a. omega arith)
  most_best (suc n) p = most_at n p (s p) refl (most_best n)

  one_at : (n p : ℕ) (o : Option ℕ) → s p ≡ o → Best (OneAnd s R n p) (then o (most s on n))
  one_at n p None e = go
    where
      go : (w : Way) → OneAnd s R n p w → ⊥
      go [] u = u
      go (q ∷ w) u = let f = u.2.1 in let z : ◌≡◌ {A = ℕ} 0 1 = cc in omega arith
  one_at n p (Some m) e = best_like (UpTo s R n m) (OneAnd s R n p) to back (most s on n m) (most_best n m)
    where
      to : (w : Way) → UpTo s R n m w → OneAnd s R n p w
      to [] u = u
      to (q ∷ w) u = (u.0, u.1, (m, e, u.2), u.3)

      back : (w : Way) → OneAnd s R n p w → UpTo s R n m w
      back [] u = u
      back (q ∷ w) u =
          let same : u.2.0 ≡ m = let f = u.2.1 in cc in
          (u.0, u.1, subst (λ (y : ℕ). Row s u.0 y q) same u.2.2, u.3)

  pub one_best : (n p : ℕ) → Best (OneAnd s R n p) (then (s p) (most s on n))
  one_best n p = one_at n p (s p) refl

-- ===== items that take nothing, and hold where C does
module _ (k : ℕ → Option Way) (R : ℕ → Way → Type 0) (good : (q : ℕ) → Best (R q) (k q)) where
  still : (C : Type 0) (p : ℕ) (o : Option Way) → C → Best (R p) o → Best (Still R C p) (from p o)
  still C p None c h = go
    where
      go : (w : Way) → Still R C p w → ⊥
      go [] u = u
      go (q ∷ w) u = h w (subst (λ (y : ℕ). R y w) (sym u.0.0) u.1)
  still C p (Some v) c h = (((refl, c), h.0), go)
    where
      go : (w : Way) → Still R C p w → NoFurther w (p ∷ v)
      go [] u = tt
      go (q ∷ w) u = inr (sym u.0.0, h.1 w (subst (λ (y : ℕ). R y w) (sym u.0.0) u.1))

  pub still_best : (C : Type 0) (t : Bool) → (t ≡ true → C) → (C → t ≡ true) → (p : ℕ) → Best (Still R C p) (when t (from p (k p)))
  still_best C true to back p = still C p (k p) (to refl) (good p)
  still_best C false to back p = go
    where
      go : (w : Way) → Still R C p w → ⊥
      go [] u = u
      go (q ∷ w) u = false≢true (back u.0.1)

-- ===== the items
module _ (l : List ℕ) (is : List Item) (good : (q : ℕ) → Preferred l is q (run l is q)) (p : ℕ) where
  abbrev More : ℕ → Way → Type 0
  More q w = Fits l is q w

  taken_best : (x : Piece) (t : Times) → Best (Fits l (takes x t ∷ is) p) (run l (takes x t ∷ is) p)
  taken_best x once = best_like (OneAnd (step l x) More 0 p) (Fits l (takes x once ∷ is) p) to back _ (one_best (step l x) (step_on l x) (run l is) More good 0 p)
    where
      to : (w : Way) → OneAnd (step l x) More 0 p w → Fits l (takes x once ∷ is) p w
      to [] u = u
      to (q ∷ w) u = ((suc u.0, omega (arith, u.1), u.2), u.3)

      back : (w : Way) → Fits l (takes x once ∷ is) p w → OneAnd (step l x) More 0 p w
      back [] u = u
      back (q ∷ w) u = (0, omega arith, subst (λ (n : ℕ). Row (step l x) n p q) u.0.1 u.0.2, u.1)
  taken_best x maybe = best_like (UpTo (step l x) More 1 p) (Fits l (takes x maybe ∷ is) p) to back _ (most_best (step l x) (step_on l x) (run l is) More good 1 p)
    where
      to : (w : Way) → UpTo (step l x) More 1 p w → Fits l (takes x maybe ∷ is) p w
      to [] u = u
      to (q ∷ w) u = ((u.0, u.1, u.2), u.3)

      back : (w : Way) → Fits l (takes x maybe ∷ is) p w → UpTo (step l x) More 1 p w
      back [] u = u
      back (q ∷ w) u = (u.0.0, u.0.1, u.0.2, u.1)
  taken_best x many = best_like (UpTo (step l x) More (length l) p) (Fits l (takes x many ∷ is) p) to back _ (most_best (step l x) (step_on l x) (run l is) More good (length l) p)
    where
      to : (w : Way) → UpTo (step l x) More (length l) p w → Fits l (takes x many ∷ is) p w
      to [] u = u
      to (q ∷ w) u = ((u.0, tt, u.2), u.3)

      back : (w : Way) → Fits l (takes x many ∷ is) p w → UpTo (step l x) More (length l) p w
      back [] u = u
      back (q ∷ w) u = let b = row_short l x u.0.0 p q u.0.2 in (u.0.0, omega arith, u.0.2, u.1)
  taken_best x some = best_like (OneAnd (step l x) More (length l) p) (Fits l (takes x some ∷ is) p) to back _ (one_best (step l x) (step_on l x) (run l is) More good (length l) p)
    where
      to : (w : Way) → OneAnd (step l x) More (length l) p w → Fits l (takes x some ∷ is) p w
      to [] u = u
      to (q ∷ w) u = ((suc u.0, omega arith, u.2), u.3)

      back : (w : Way) → Fits l (takes x some ∷ is) p w → OneAnd (step l x) More (length l) p w
      back [] u = u
      back (q ∷ w) u = at u.0.0 u.0.1 u.0.2
        where
          at : (n : ℕ) → 1 ≤ n → Row (step l x) n p q → OneAnd (step l x) More (length l) p (q ∷ w)
          at zero one r = absurd (omega arith)
          at (suc n) one r = let b = row_short l x (suc n) p q r in (n, omega arith, r, u.1)

  -- an item that takes nothing, and holds where C does
  abbrev Held : Type 0 → ℕ → Item → Type 0
  Held C q x = (Leads l x p q → (p ≡ q) × C) × ((p ≡ q) × C → Leads l x p q)

  still_item : (x : Item) (C : Type 0) (t : Bool) → (t ≡ true → C) → (C → t ≡ true) → ((q : ℕ) → Held C q x) → Best (Fits l (x ∷ is) p) (when t (from p (run l is p)))
  still_item x C t to-c from-c held = best_like (Still More C p) (Fits l (x ∷ is) p) to back _ (still_best (run l is) More good C t to-c from-c p)
    where
      to : (w : Way) → Still More C p w → Fits l (x ∷ is) p w
      to [] u = u
      to (q ∷ w) u = ((held q).1 u.0, u.1)

      back : (w : Way) → Fits l (x ∷ is) p w → Still More C p w
      back [] u = u
      back (q ∷ w) u = ((held q).0 u.0, u.1)

  barred : (x : Item) → ((q : ℕ) → Leads l x p q → ⊥) → (w : Way) → Fits l (x ∷ is) p w → ⊥
  barred x no' [] u = u
  barred x no' (q ∷ w) u = no' q u.0

pub preferred : (l : List ℕ) (is : List Item) (p : ℕ) → Preferred l is p (run l is p)
preferred l [] p = (tt, go)
  where
    go : (v : Way) → Fits l [] p v → NoFurther v []
    go [] u = tt
    go (q ∷ v) u = u
preferred l (takes x t ∷ is) p = taken_best l is (preferred l is) p x t
preferred l (start ∷ is) p = still_item l is (preferred l is) p start (p ≡ 0) (eqb p 0) (eqb-true p 0) (eq-eqb p 0) (λ q. (λ h. h, λ h. h))
preferred l (end ∷ is) p = still_item l is (preferred l is) p end (at_end l p ≡ true) (at_end l p) (λ e. e) (λ e. e) (λ q. (λ h. h, λ h. h))
preferred l (never d ∷ is) p = barred l is (preferred l is) p (never d) (λ q h. h)
preferred l (opens ∷ is) p = still_item l is (preferred l is) p opens (Unit {0}) true (λ _. tt) (λ _. refl) (λ q. (λ h. (h, tt), λ h. h.0))
preferred l (closes ∷ is) p = still_item l is (preferred l is) p closes (Unit {0}) true (λ _. tt) (λ _. refl) (λ q. (λ h. (h, tt), λ h. h.0))
preferred l (bar ∷ is) p = barred l is (preferred l is) p bar (λ q h. h)
