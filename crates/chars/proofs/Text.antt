-- The tests of text and of its edges decide what std says of them. Assumes nothing.
use Rattle.std.proofs.Common.{◌≡◌, ℕ, true, ◌||◌, eqb, ltb, leb, List, [], ◌∷◌, length, get_or, is_ok, Ok, Err, IsUtf8, Decides, Result, sym, refl, subst, ⊎_elim, arith, MatchResult}
use lib.Utf8.{scalars, encodes}
use Rattle.std.specs.Str.{IsCharBoundary, chars}
use Rattle.std.proofs.lemmas.Str.{encodes-chars, scalars-chars}
use Rattle.std.proofs.lemmas.Bool.{and_parts, and_from, or_cases, or_left, or_right, eqb-true, eq-eqb, leb-true, le-leb, ltb-true, lt-ltb, cases_lt, false≢true}
use Rattle.chars.specs.Edges.{alike, text, edge}

pub alike_true : (xs ys : List ℕ) → alike xs ys ≡ true → xs ≡ ys
alike_true [] [] e = refl
alike_true [] (y ∷ ys) e = let z : ◌≡◌ {A = ℕ} 0 1 = cc in absurd (omega arith)
alike_true (x ∷ xs) [] e = let z : ◌≡◌ {A = ℕ} 0 1 = cc in absurd (omega arith)
alike_true (x ∷ xs) (y ∷ ys) e =
    let h = and_parts (eqb x y) (alike xs ys) e in
    let a = eqb-true x y h.0 in
    let b = alike_true xs ys h.1 in cc

pub alike_refl : (xs : List ℕ) → alike xs xs ≡ true
alike_refl [] = refl
alike_refl (x ∷ xs) = and_from (eqb x x) (alike xs xs) (eq-eqb x x refl) (alike_refl xs)

pub text_tells : (l : List ℕ) → Decides (text l) (IsUtf8 l)
text_tells l = (
  λ e. let h = and_parts (scalars (chars l)) (alike (encodes (chars l)) l) e in (chars l, (h.0, alike_true _ _ h.1)),
  λ u. and_from (scalars (chars l)) (alike (encodes (chars l)) l) (scalars-chars l u) (subst (λ bs. alike bs l ≡ true) (sym (encodes-chars l u)) (alike_refl l)),
)

pub edge_tells : (l : List ℕ) (p : ℕ) → Decides (edge l p) (IsCharBoundary l p)
edge_tells l p = (
  λ e.
      let h = and_parts (leb p (length l)) (leb (length l) p || (ltb (get_or l p 0) 128 || leb 192 (get_or l p 0))) e in (
        leb-true p (length l) h.0,
        λ lt high. ⊎_elim (λ k. absurd (omega (arith, leb-true (length l) p k)))
            (λ k. ⊎_elim (λ j. absurd (omega (arith, ltb-true (get_or l p 0) 128 j))) (λ j. leb-true 192 (get_or l p 0) j) (or_cases (ltb (get_or l p 0) 128) (leb 192 (get_or l p 0)) k))
            (or_cases (leb (length l) p) (ltb (get_or l p 0) 128 || leb 192 (get_or l p 0)) h.1),
      ),
  λ b. and_from (leb p (length l)) (leb (length l) p || (ltb (get_or l p 0) 128 || leb 192 (get_or l p 0))) (le-leb p (length l) b.0)
      (⊎_elim
      (λ lt. or_right (leb (length l) p) _
      (⊎_elim (λ low. or_left (ltb (get_or l p 0) 128) _ (lt-ltb (get_or l p 0) 128 low)) (λ high. or_right (ltb (get_or l p 0) 128) _ (le-leb 192 (get_or l p 0) (b.1 lt high))) (cases_lt (get_or l p 0) 128)))
      (λ le. or_left (leb (length l) p) _ (le-leb (length l) p le))
      (cases_lt p (length l))),
)

-- an answer whose Ok says P, and whose Err says that P is not so
pub ok_decides : {X Y P : Type 0} (Q : X → Type 0) (R : Y → Type 0) (r : Result X Y) → MatchResult r (λ x. Q x × P) (λ y. (P → ⊥) × R y) → Decides (is_ok r) P
ok_decides Q R (Ok x) h = (λ _. h.1, λ _. refl)
ok_decides Q R (Err y) h = (λ e. absurd (false≢true e), λ p. absurd (h.0 p))
