-- A reader that goes a byte at a time refuses at the longest shared beginning, if each of its states stands for what may follow
-- there. Assumes nothing.
use Rattle.std.proofs.Common.{◌≡◌, ℕ, zero, suc, ◌<◌, ◌≤◌, Bool, true, false, cond, List, [], ◌∷◌, ◌++◌, length, take, Some, None, Option, sym, refl, subst, le_of_suc-le-suc, add-one, arith}
use Rattle.std.proofs.lemmas.Bool.{both_ways}
use Rattle.matcher.specs.Refusals.{Longest, Judged, one_on, read_on, refuses}

abbrev pub From : {S : Type 0} → (S → List ℕ → Type 0) → Option S → List ℕ → Type 0
From R None bs = ⊥
From R (Some s) bs = R s bs

abbrev pub Kept : {S : Type 0} → (S → Type 0) → Option S → Type 0
Kept G None = Unit {0}
Kept G (Some s) = G s

-- what R allows after s, one byte on
abbrev pub Next : {S : Type 0} → (S → ℕ → Option S) → (S → Bool) → (S → List ℕ → Type 0) → S → List ℕ → Type 0
Next next done R s [] = done s ≡ true
Next next done R s (b ∷ bs) = From R (next s b) bs

-- R s is what may follow in the state s, and G holds of the states that are reached
module _ (S : Type 0) (next : S → ℕ → Option S) (done : S → Bool) (R : S → List ℕ → Type 0) (G : S → Type 0)
    (alive : (s : S) → G s → (t : List ℕ) × R s t)
    (keeps : (s : S) → G s → (b : ℕ) → Kept G (next s b))
    (unfolds : (s : S) (bs : List ℕ) → R s bs → Next next done R s bs)
    (folds : (s : S) (bs : List ℕ) → Next next done R s bs → R s bs)
  where
    stop : (s : S) → G s → (b : ℕ) (bs : List ℕ) → ((cs : List ℕ) → R s (b ∷ cs) → ⊥) → Longest (R s) (b ∷ bs) 0
    stop s g b bs dead = record { within = omega arith; illegal = dead bs; shared = alive s g; longest = go }
      where
        go : (m : ℕ) → 0 < m → m ≤ length (b ∷ bs) → (t : List ℕ) → R s (take m (b ∷ bs) ++ t) → ⊥
        go zero h le t r = omega arith
        go (suc m) h le t r = dead (take m bs ++ t) r

    on : (s s' : S) (b : ℕ) (bs : List ℕ) → ((cs : List ℕ) → R s (b ∷ cs) → R s' cs) → ((cs : List ℕ) → R s' cs → R s (b ∷ cs)) → (o : Option ℕ) → Judged (R s') bs o → Judged (R s) (b ∷ bs) (one_on o)
    on s s' b bs to back None j = back bs j
    on s s' b bs to back (Some n) j = subst (Longest (R s) (b ∷ bs)) (sym (add-one n)) (record {
      within = let h = j.within in omega arith;
      illegal = λ r. j.illegal (to bs r);
      shared = (j.shared.0, back (take n bs ++ j.shared.0) j.shared.1);
      longest = go;
    })
      where
        go : (m : ℕ) → suc n < m → m ≤ length (b ∷ bs) → (t : List ℕ) → R s (take m (b ∷ bs) ++ t) → ⊥
        go zero h le t r = omega arith
        go (suc m) h le t r = j.longest m (le_of_suc-le-suc h) (le_of_suc-le-suc le) t (to (take m bs ++ t) r)

    at_end_lem : (s : S) → G s → (t : Bool) → done s ≡ t → Judged (R s) [] (cond t None (Some 0))
    at_end_lem s g true e = folds s [] e
    at_end_lem s g false e = record {
      within = omega arith;
      illegal = λ r. both_ways (done s) e (unfolds s [] r);
      shared = alive s g;
      longest = λ m h le t r. omega arith;
    }

    at_byte : (s : S) → G s → (b : ℕ) (bs : List ℕ) (o : Option S) → Kept G o → ((cs : List ℕ) → R s (b ∷ cs) → From R o cs) → ((cs : List ℕ) → From R o cs → R s (b ∷ cs))
        → ((s' : S) → G s' → Judged (R s') bs (refuses next done s' bs)) → Judged (R s) (b ∷ bs) (read_on o (λ s'. refuses next done s' bs))
    at_byte s g b bs None kept to back rest = stop s g b bs to
    at_byte s g b bs (Some s') kept to back rest = on s s' b bs to back (refuses next done s' bs) (rest s' kept)

    pub judged : (s : S) → G s → (bs : List ℕ) → Judged (R s) bs (refuses next done s bs)
    judged s g [] = at_end_lem s g (done s) refl
    judged s g (b ∷ bs) = at_byte s g b bs (next s b) (keeps s g b) (λ cs r. unfolds s (b ∷ cs) r) (λ cs r. folds s (b ∷ cs) r) (λ s' g'. judged s' g' bs)
