-- The bytes of a character above 127, one at a time. Assumes nothing.
use Rattle.std.proofs.Common.{◌≡◌, ℕ, zero, suc, ◌+◌, ◌-◌, ◌*◌, ◌/◌, ◌<◌, ◌≤◌, true, eqb, ltb, leb, ◌⊎◌, List, [], ◌∷◌, ◌++◌, Some, None, Option, sym, ap, ◌∙◌, subst, ⊎_elim, arith}
use lib.Utf8.{scalar, encode, next, low_scalar, scalar_cases}
use Rattle.std.proofs.lemmas.Bool.{cond-true, cond-false, cond_both, lt-ltb, le-ltb, leb-true, eqb-true, eqb-false, and_parts, cases_lt, cases_eq}
use Rattle.std.proofs.lemmas.Bool.Decides.{nat_tests}
use Rattle.chars.specs.declared.leads.Owed.{Owed}
use Rattle.chars.specs.Sets.{between}
use Rattle.chars.specs.Leads.{owes, lead_of}

pub two : (c : ℕ) → 128 ≤ c → c < 2048 → encode c ≡ (192 + c / 64) ∷ next c ∷ []
unfolding encode
two c a b = cond-false (ltb c 128) _ _ (le-ltb c 128 a) ∙ cond-true (ltb c 2048) _ _ (lt-ltb c 2048 b)

pub three : (c : ℕ) → 2048 ≤ c → c < 65536 → encode c ≡ (224 + c / 4096) ∷ next (c / 64) ∷ next c ∷ []
unfolding encode
three c a b = cond-false (ltb c 128) _ _ (le-ltb c 128 (omega arith)) ∙ cond-false (ltb c 2048) _ _ (le-ltb c 2048 a) ∙ cond-true (ltb c 65536) _ _ (lt-ltb c 65536 b)

pub four : (c : ℕ) → 65536 ≤ c → encode c ≡ (240 + c / 262144) ∷ next (c / 4096) ∷ next (c / 64) ∷ next c ∷ []
unfolding encode
four c a = cond-false (ltb c 128) _ _ (le-ltb c 128 (omega arith)) ∙ cond-false (ltb c 2048) _ _ (le-ltb c 2048 (omega arith)) ∙ cond-false (ltb c 65536) _ _ (le-ltb c 65536 a)

-- the bytes that are owed, and then L
abbrev pub Owes : ℕ → ℕ → ℕ → (List ℕ → Type 0) → List ℕ → Type 0
Owes zero lo hi L [] = ⊥
Owes (suc n) lo hi L [] = ⊥
Owes zero lo hi L (b ∷ bs) = (lo ≤ b) × (b ≤ hi) × L bs
Owes (suc n) lo hi L (b ∷ bs) = (lo ≤ b) × (b ≤ hi) × Owes n 128 191 L bs

-- what follows a first byte, and then L
abbrev pub Following : (List ℕ → Type 0) → Option Owed → List ℕ → Type 0
Following L None bs = ⊥
Following L (Some o) bs = Owes o.more o.low o.high L bs

-- a character above 127, and then L
abbrev pub Whole : (List ℕ → Type 0) → List ℕ → Type 0
Whole L bs = (c : ℕ) × (cs : List ℕ) × (128 ≤ c) × (scalar c ≡ true) × L cs × (encode c ++ cs ≡ bs)

-- the first byte of bs, what it owes, and then L
abbrev pub Begun : (List ℕ → Type 0) → List ℕ → Type 0
Begun L [] = ⊥
Begun L (b ∷ bs) = (128 ≤ b) × Following L (lead_of b) bs

high_scalar : (c : ℕ) → 57344 ≤ c → c < 1114112 → scalar c ≡ true
high_scalar c a b = grind (arith, nat_tests)

inside : (lo hi b : ℕ) → between lo hi b ≡ true → (lo ≤ b) × (b ≤ hi)
inside lo hi b e = let h = and_parts (leb lo b) (leb b hi) e in (leb-true lo b h.0, leb-true b hi h.1)

lead2 : (b : ℕ) → 194 ≤ b → b ≤ 223 → lead_of b ≡ owes 0 128 191
lead2 b h i = grind (arith, nat_tests)

lead3 : (b : ℕ) → 224 ≤ b → b ≤ 239 → (b ≡ 224 → ⊥) → (b ≡ 237 → ⊥) → lead_of b ≡ owes 1 128 191
lead3 b h i m n = grind (arith, nat_tests)

lead4 : (b : ℕ) → 241 ≤ b → b ≤ 243 → lead_of b ≡ owes 2 128 191
lead4 b h i = grind (arith, nat_tests)

module _ (L : List ℕ → Type 0) where
  join2 : (x y : ℕ) (cs : List ℕ) → 194 ≤ x → x ≤ 223 → 128 ≤ y → y ≤ 191 → L cs → Whole L (x ∷ y ∷ cs)
  join2 x y cs a b h i l =
      let c : ℕ = (x - 192) * 64 + (y - 128) in
      let p : 192 + c / 64 ≡ x = omega arith in
      let q : next c ≡ y = omega arith in
      (c, cs, omega arith, low_scalar c (omega arith), l, ap (λ e. e ++ cs) (two c (omega arith) (omega arith)) ∙ (λ j. p j ∷ q j ∷ cs))

  join3 : (x y z : ℕ) (cs : List ℕ) → 224 ≤ x → x ≤ 239 → 128 ≤ y → y ≤ 191 → 128 ≤ z → z ≤ 191 → (x ≡ 224 → 160 ≤ y) → (x ≡ 237 → y ≤ 159) → L cs → Whole L (x ∷ y ∷ z ∷ cs)
  join3 x y z cs a b h i m n low sur l =
      let c : ℕ = (x - 224) * 4096 + (y - 128) * 64 + (z - 128) in
      let p : 224 + c / 4096 ≡ x = omega arith in
      let e : c / 64 ≡ (x - 224) * 64 + (y - 128) = omega arith in
      let q : next (c / 64) ≡ y = subst (λ (m : ℕ). next m ≡ y) (sym e) (omega arith) in
      let r : next c ≡ z = omega arith in
      let least : 2048 ≤ c = ⊎_elim (λ e. omega (arith, low e)) (λ e. omega arith) (cases_eq x 224) in
      let is : scalar c ≡ true = ⊎_elim (λ u. low_scalar c u) (λ u. ⊎_elim (λ e. absurd (omega (arith, sur e))) (λ e. high_scalar c (omega arith) (omega arith)) (cases_eq x 237)) (cases_lt c 55296) in
      (c, cs, omega arith, is, l, ap (λ e. e ++ cs) (three c least (omega arith)) ∙ (λ j. p j ∷ q j ∷ r j ∷ cs))

  join4 : (x y z w : ℕ) (cs : List ℕ) → 240 ≤ x → x ≤ 244 → 128 ≤ y → y ≤ 191 → 128 ≤ z → z ≤ 191 → 128 ≤ w → w ≤ 191 → (x ≡ 240 → 144 ≤ y) → (x ≡ 244 → y ≤ 143) → L cs → Whole L (x ∷ y ∷ z ∷ w ∷ cs)
  join4 x y z w cs a b h i m n u v low top l =
      let c : ℕ = (x - 240) * 262144 + (y - 128) * 4096 + (z - 128) * 64 + (w - 128) in
      let p : 240 + c / 262144 ≡ x = omega arith in
      let f : c / 4096 ≡ (x - 240) * 64 + (y - 128) = omega arith in
      let q : next (c / 4096) ≡ y = subst (λ (m : ℕ). next m ≡ y) (sym f) (omega arith) in
      let e : c / 64 ≡ (x - 240) * 4096 + (y - 128) * 64 + (z - 128) = omega arith in
      let r : next (c / 64) ≡ z = subst (λ (m : ℕ). next m ≡ z) (sym e) (omega arith) in
      let t : next c ≡ w = omega arith in
      let least : 65536 ≤ c = ⊎_elim (λ e. omega (arith, low e)) (λ e. omega arith) (cases_eq x 240) in
      let most : c < 1114112 = ⊎_elim (λ e. omega (arith, top e)) (λ e. omega arith) (cases_eq x 244) in
      (c, cs, omega arith, high_scalar c (omega arith) most, l, ap (λ e. e ++ cs) (four c least) ∙ (λ j. p j ∷ q j ∷ r j ∷ t j ∷ cs))

  fold2 : (x : ℕ) → 194 ≤ x → x ≤ 223 → (bs : List ℕ) → Owes 0 128 191 L bs → Whole L (x ∷ bs)
  fold2 x a b [] h = absurd h
  fold2 x a b (y ∷ cs) h = join2 x y cs a b h.0 h.1 h.2

  fold3 : (x lo hi : ℕ) → 224 ≤ x → x ≤ 239 → 128 ≤ lo → hi ≤ 191 → (x ≡ 224 → 160 ≤ lo) → (x ≡ 237 → hi ≤ 159) → (bs : List ℕ) → Owes 1 lo hi L bs → Whole L (x ∷ bs)
  fold3 x lo hi a b m n low sur [] h = absurd h
  fold3 x lo hi a b m n low sur (y ∷ []) h = absurd h.2
  fold3 x lo hi a b m n low sur (y ∷ z ∷ cs) h =
      join3 x y z cs a b (omega (arith, h.0)) (omega (arith, h.1)) h.2.0 h.2.1 (λ e. omega (arith, low e, h.0)) (λ e. omega (arith, sur e, h.1)) h.2.2

  fold4 : (x lo hi : ℕ) → 240 ≤ x → x ≤ 244 → 128 ≤ lo → hi ≤ 191 → (x ≡ 240 → 144 ≤ lo) → (x ≡ 244 → hi ≤ 143) → (bs : List ℕ) → Owes 2 lo hi L bs → Whole L (x ∷ bs)
  fold4 x lo hi a b m n low top [] h = absurd h
  fold4 x lo hi a b m n low top (y ∷ []) h = absurd h.2
  fold4 x lo hi a b m n low top (y ∷ z ∷ []) h = absurd h.2.2
  fold4 x lo hi a b m n low top (y ∷ z ∷ w ∷ cs) h =
      join4 x y z w cs a b (omega (arith, h.0)) (omega (arith, h.1)) h.2.0 h.2.1 h.2.2.0 h.2.2.1 (λ e. omega (arith, low e, h.0)) (λ e. omega (arith, top e, h.1)) h.2.2.2

  abbrev Folds : ℕ → Option Owed → Type 0
  Folds x o = (bs : List ℕ) → Following L o bs → Whole L (x ∷ bs)

  -- a first byte and what it owes are a character
  pub whole : (x : ℕ) (bs : List ℕ) → Following L (lead_of x) bs → Whole L (x ∷ bs)
  whole x =
      cond_both (between 194 223 x) (owes 0 128 191) _ (Folds x) (λ e. let h = inside 194 223 x e in fold2 x h.0 h.1)
      (λ e1. cond_both (eqb x 224) (owes 1 160 191) _ (Folds x) (λ e. let h = eqb-true x 224 e in fold3 x 160 191 (omega arith) (omega arith) (omega arith) (omega arith) (λ _. omega arith) (λ u. absurd (omega arith)))
      (λ e2. cond_both (eqb x 237) (owes 1 128 159) _ (Folds x) (λ e. let h = eqb-true x 237 e in fold3 x 128 159 (omega arith) (omega arith) (omega arith) (omega arith) (λ u. absurd (omega arith)) (λ _. omega arith))
      (λ e3. cond_both (between 225 239 x) (owes 1 128 191) _ (Folds x) (λ e. let h = inside 225 239 x e in fold3 x 128 191 (omega arith) h.1 (omega arith) (omega arith) (λ u. absurd (omega arith)) (λ u. absurd (eqb-false x 237 e3 u)))
      (λ e4. cond_both (eqb x 240) (owes 2 144 191) _ (Folds x) (λ e. let h = eqb-true x 240 e in fold4 x 144 191 (omega arith) (omega arith) (omega arith) (omega arith) (λ _. omega arith) (λ u. absurd (omega arith)))
      (λ e5. cond_both (between 241 243 x) (owes 2 128 191) _ (Folds x) (λ e. let h = inside 241 243 x e in fold4 x 128 191 (omega arith) (omega arith) (omega arith) (omega arith) (λ u. absurd (omega arith)) (λ u. absurd (omega arith)))
      (λ e6. cond_both (eqb x 244) (owes 2 128 143) None (Folds x) (λ e. let h = eqb-true x 244 e in fold4 x 128 143 (omega arith) (omega arith) (omega arith) (omega arith) (λ u. absurd (omega arith)) (λ _. omega arith))
      (λ e7 bs h. absurd h)))))))

  begun2 : (c : ℕ) → 128 ≤ c → c < 2048 → (cs : List ℕ) → L cs → Begun L (encode c ++ cs)
  begun2 c a b cs l =
      let x : ℕ = 192 + c / 64 in
      subst (λ e. Begun L (e ++ cs)) (sym (two c a b))
      (omega arith, subst (λ o. Following L o (next c ∷ cs)) (sym (lead2 x (omega arith) (omega arith))) (omega arith, omega arith, l))

  begun3 : (c : ℕ) → 2048 ≤ c → c < 65536 → (c < 55296) ⊎ ((57344 ≤ c) × (c < 1114112)) → (cs : List ℕ) → L cs → Begun L (encode c ++ cs)
  begun3 c a b s cs l =
      let x : ℕ = 224 + c / 4096 in
      let at : (lo hi : ℕ) → lead_of x ≡ owes 1 lo hi → lo ≤ next (c / 64) → next (c / 64) ≤ hi → Begun L (encode c ++ cs) =
      λ lo hi e h i. subst (λ e. Begun L (e ++ cs)) (sym (three c a b)) (omega arith, subst (λ o. Following L o (next (c / 64) ∷ next c ∷ cs)) (sym e) (h, i, (omega arith, omega arith, l))) in
      ⊎_elim (λ (e : x ≡ 224). at 160 191 (ap lead_of e) (omega arith) (omega arith))
      (λ n. ⊎_elim (λ (e : x ≡ 237). at 128 159 (ap lead_of e) (omega arith) (⊎_elim (λ u. omega arith) (λ u. absurd (omega arith)) s))
      (λ m. at 128 191 (lead3 x (omega arith) (omega arith) n m) (omega arith) (omega arith)) (cases_eq x 237)) (cases_eq x 224)

  begun4 : (c : ℕ) → 65536 ≤ c → c < 1114112 → (cs : List ℕ) → L cs → Begun L (encode c ++ cs)
  begun4 c a b cs l =
      let x : ℕ = 240 + c / 262144 in
      let at : (lo hi : ℕ) → lead_of x ≡ owes 2 lo hi → lo ≤ next (c / 4096) → next (c / 4096) ≤ hi → Begun L (encode c ++ cs) =
      λ lo hi e h i. subst (λ e. Begun L (e ++ cs)) (sym (four c a)) (omega arith, subst (λ o. Following L o (next (c / 4096) ∷ next (c / 64) ∷ next c ∷ cs)) (sym e) (h, i, (omega arith, omega arith, (omega arith, omega arith, l)))) in
      ⊎_elim (λ (e : x ≡ 240). at 144 191 (ap lead_of e) (omega arith) (omega arith))
      (λ n. ⊎_elim (λ (e : x ≡ 244). at 128 143 (ap lead_of e) (omega arith) (omega arith))
      (λ m. at 128 191 (lead4 x (omega arith) (omega arith)) (omega arith) (omega arith)) (cases_eq x 244)) (cases_eq x 240)

  -- a character above 127 is a first byte and what it owes
  pub begun : (c : ℕ) → 128 ≤ c → scalar c ≡ true → (cs : List ℕ) → L cs → Begun L (encode c ++ cs)
  begun c a s cs l =
      let r = scalar_cases c s in
      ⊎_elim (λ b. begun2 c a b cs l)
      (λ b. ⊎_elim (λ d. begun3 c b d r cs l) (λ d. begun4 c d (⊎_elim (λ u. absurd (omega arith)) (λ u. u.1) r) cs l) (cases_lt c 65536)) (cases_lt c 2048)

-- the bounds that a first byte sets are in order
abbrev pub InOrder : Option Owed → Type 0
InOrder None = Unit {0}
InOrder (Some o) = o.low ≤ o.high

pub in_order : (x : ℕ) → InOrder (lead_of x)
in_order x =
    cond_both (between 194 223 x) _ _ InOrder (λ _. omega arith)
    (λ _. cond_both (eqb x 224) _ _ InOrder (λ _. omega arith)
    (λ _. cond_both (eqb x 237) _ _ InOrder (λ _. omega arith)
    (λ _. cond_both (between 225 239 x) _ _ InOrder (λ _. omega arith)
    (λ _. cond_both (eqb x 240) _ _ InOrder (λ _. omega arith)
    (λ _. cond_both (between 241 243 x) _ _ InOrder (λ _. omega arith)
    (λ _. cond_both (eqb x 244) _ _ InOrder (λ _. omega arith) (λ _. tt)))))))
