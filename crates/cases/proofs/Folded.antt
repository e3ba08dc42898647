-- A `try_fold` over digits reads a number. Assumes nothing.
use Rattle.std.proofs.Common.{◌≡◌, ℕ, List, [], ◌∷◌, length, Some, None, Option, Ok, Err, Result, ControlFlow, Continue, Break, Bor, Iter, sym, refl, ap, ◌∙◌, arith}
use Rattle.std.specs.Fn.{Called}
use Rattle.std.specs.Iterator.{Yields, TryFoldTurn, TryFoldsItems}
use Rattle.std.specs.List.{FoldsTo}
use Rattle.std.specs.Option.{MatchOption}
use Rattle.std.specs.Slice.Iter.{iter_rest}
use Rattle.std.proofs.iter.Yields.{fronts}
use denote.Param.Members.{Mut}
use Rattle.cases.specs.declared.fault.Fault.{Fault}
use Rattle.cases.specs.Number.{grown, go_on, number_from}

none_left : (n : ℕ) (ds : List ℕ) → length ds ≡ 0 → number_from n ds ≡ Ok n
none_left n [] none = refl
none_left n (d ∷ ds) none = absurd (omega arith)

-- A `try_fold` by `grown` over a slice reads on from n. `onward` and `broken` say what `?` does with what the closure gave.
module _ {F E : Type 0} (g : Mut F (ℕ × (Bor ℕ × Unit {0})) (Result ℕ Fault)) (branches : Result ℕ Fault → ControlFlow E ℕ → Type 0) (resumes : E → Result ℕ Fault → Type 0)
    (grows : (f : F) (n : ℕ) (d : Bor ℕ) (v : Result ℕ Fault) (h : F) → Called g f (n, (d, tt)) v h → v ≡ grown n d.now)
    (onward : (v : Result ℕ Fault) (m : ℕ) → branches v (Continue m) → v ≡ Ok m)
    (broken : (v : Result ℕ Fault) (e : E) (r : Result ℕ Fault) → branches v (Break e) → resumes e r → (x : Fault) × (v ≡ Err x) × (r ≡ Err x)) where
  turns : (ds : List (Bor ℕ)) (s t : Iter ℕ) (f h : F) (n m : ℕ) → Yields fronts s ds t → FoldsTo {P = F × ℕ} (TryFoldTurn g branches) (f, n) ds (h, m) → number_from n (iter_rest s) ≡ number_from m (iter_rest t)
  turns [] s t f h n m same folds = ap (λ (p : F × ℕ). number_from p.1 (iter_rest s)) folds ∙ ap (λ (i : Iter ℕ). number_from m (iter_rest i)) same
  turns (d ∷ ds) s t f h n m (j, first, others) ((k, o), (v, called, goes), more) =
      ap (number_from n) first
      ∙ ap (λ q. go_on q (λ l. number_from l (iter_rest j))) (sym (grows f n d v k called) ∙ onward v o goes)
      ∙ turns ds j t k h o m others more

  ended : (o : Option (Bor ℕ)) (t u : Iter ℕ) (h : F) (m : ℕ) (r : Result ℕ Fault) → fronts t o u → MatchOption o (branches r (Continue m)) (λ d. (v : Result ℕ Fault) × (k : F) × (e : E) × Called g h (m, (d, tt)) v k × branches v (Break e) × resumes e r) → r ≡ number_from m (iter_rest t)
  ended None t u h m r last ends = onward r m ends ∙ sym (none_left m (iter_rest t) last.0)
  ended (Some d) t u h m r last (v, k, e, called, breaks, back) =
      let refused = broken v e r breaks back in
      refused.2 ∙ sym (ap (number_from m) last ∙ ap (λ q. go_on q (λ l. number_from l (iter_rest u))) (sym (grows h m d v k called) ∙ refused.1))

  pub number_from-try_fold : (s u : Iter ℕ) (f : F) (n : ℕ) (r : Result ℕ Fault) → TryFoldsItems fronts g branches resumes s f n r u → r ≡ number_from n (iter_rest s)
  number_from-try_fold s u f n r (ds, o, h, m, (t, gave, last), folds, ends) = ended o t u h m r last ends ∙ sym (turns ds s t f h n m gave folds)
