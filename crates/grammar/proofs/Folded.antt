-- A `try_fold` over the bytes of a class tells whether a member takes a character. Assumes nothing.
use Rattle.std.proofs.Common.{◌≡◌, ℕ, Bool, false, List, [], ◌∷◌, length, Some, None, Option, ControlFlow, Continue, Break, Bor, Iter, sym, ap, subst, ◌∙◌, refl, arith}
use Rattle.std.specs.ControlFlow.{break_value}
use Rattle.std.specs.Fn.{Called}
use Rattle.std.specs.Iterator.{Yields, TryFoldTurn, TryFoldsItems}
use Rattle.std.specs.List.{FoldsTo}
use Rattle.std.specs.Option.{MatchOption, unwrap_or}
use Rattle.std.specs.Slice.Iter.{iter_rest}
use Rattle.std.proofs.iter.Yields.{fronts}
use denote.Param.Members.{Mut}
use Rattle.grammar.specs.declared.class.Spot.{Spot}
use Rattle.grammar.specs.Classes.{Passed, passes, listed_on, listed}

none_left : (c : ℕ) (s : Spot) (bs : List ℕ) → length bs ≡ 0 → listed c s bs ≡ false
none_left c s [] none = refl
none_left c s (b ∷ bs) none = absurd (omega arith)

-- a class that only went on has not taken the character
abbrev pub found : Passed → Bool
found p = unwrap_or (break_value p) false

-- A `try_fold` by `passes` over a slice reads on from the spot. `onward` and `broken` say what `?` does with what the closure gave,
-- which no call changes.
module _ {F E : Type 0} (c : ℕ) (g : Mut F (Spot × (Bor ℕ × Unit {0})) Passed) (branches : Passed → ControlFlow E Spot → Type 0) (resumes : E → Passed → Type 0) (f : F)
    (passed : (s : Spot) (b : Bor ℕ) (v : Passed) (h : F) → Called g f (s, (b, tt)) v h → (v ≡ passes c s b.now) × (h ≡ f))
    (onward : (v : Passed) (s : Spot) → branches v (Continue s) → v ≡ Continue s)
    (broken : (v : Passed) (e : E) (r : Passed) → branches v (Break e) → resumes e r → (x : Bool) × (v ≡ Break x) × (r ≡ Break x)) where
  one_more : (s : Spot) (b : Bor ℕ) (v : Passed) (q h : F) → q ≡ f → Called g q (s, (b, tt)) v h → (v ≡ passes c s b.now) × (h ≡ f)
  one_more s b v q h same called = passed s b v h (subst (λ (y : F). Called g y (s, (b, tt)) v h) same called)

  turns : (bs : List (Bor ℕ)) (s t : Iter ℕ) (q h : F) (x y : Spot) → q ≡ f → Yields fronts s bs t → FoldsTo {P = F × Spot} (TryFoldTurn g branches) (q, x) bs (h, y)
      → (listed c x (iter_rest s) ≡ listed c y (iter_rest t)) × (h ≡ f)
  turns [] s t q h x y same none folds =
      (ap (λ (p : F × Spot). listed c p.1 (iter_rest s)) folds ∙ ap (λ (i : Iter ℕ). listed c y (iter_rest i)) none, sym (ap (λ (p : F × Spot). p.0) folds) ∙ same)
  turns (b ∷ bs) s t q h x y same (j, first, others) ((k, o), (v, called, goes), more) =
      let one = one_more x b v q k same called in
      let rest = turns bs j t k h o y one.1 others more in
      (ap (listed c x) first ∙ ap (λ p. listed_on p (λ l. listed c l (iter_rest j))) (sym one.0 ∙ onward v o goes) ∙ rest.0, rest.1)

  ended : (o : Option (Bor ℕ)) (t u : Iter ℕ) (h : F) (y : Spot) (r : Passed) → h ≡ f → fronts t o u
      → MatchOption o (branches r (Continue y)) (λ b. (v : Passed) × (k : F) × (e : E) × Called g h (y, (b, tt)) v k × branches v (Break e) × resumes e r)
      → found r ≡ listed c y (iter_rest t)
  ended None t u h y r same last ends = ap found (onward r y ends) ∙ sym (none_left c y (iter_rest t) last.0)
  ended (Some b) t u h y r same last (v, k, e, called, breaks, back) =
      let over = broken v e r breaks back in
      ap found over.2 ∙ sym (ap (listed c y) last ∙ ap (λ p. listed_on p (λ l. listed c l (iter_rest u))) (sym (one_more y b v h k same called).0 ∙ over.1))

  pub listed-try_fold : (s u : Iter ℕ) (x : Spot) (r : Passed) → TryFoldsItems fronts g branches resumes s f x r u → found r ≡ listed c x (iter_rest s)
  listed-try_fold s u x r (bs, o, h, y, (t, gave, last), folds, ends) =
      let gone = turns bs s t f h x y refl gave folds in
      ended o t u h y r gone.1 last ends ∙ sym gone.0
