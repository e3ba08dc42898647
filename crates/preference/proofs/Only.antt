-- What is told of an answer is told of it alone. Assumes nothing.
use Rattle.std.proofs.Common.{◌≡◌, ℕ, zero, suc, ◌<◌, List, [], ◌∷◌, ◌++◌, Some, None, Option, sym, refl, ap, ◌∙◌, subst, ⊎_elim, arith, Ok, Err}
use Rattle.std.proofs.lemmas.Bool.{cases_lt}
use Rattle.matcher.specs.declared.answer.Span.{Span}
use Rattle.matcher.specs.declared.answer.Region.{Region}
use Rattle.matcher.specs.Answers.{Answer}
use Rattle.matcher.specs.Regions.{group, span}
use Rattle.matcher.specs.Refusals.{Longest}
use Rattle.grammar.specs.Grammar.{Item, Legal}
use Rattle.ways.specs.Match.{Way}
use Rattle.ways.specs.Ways.{Fits, NoFurther}
use Rattle.ways.specs.Meaning.{end_of, meaning}
use Rattle.preference.specs.Brackets.{Bracketed}
use Rattle.preference.specs.Found.{Spells, NoWay, pairs_of, First, Told, Agrees}
use Rattle.preference.proofs.Telling.{told_meaning}

-- ===== refusals
not_sooner : (e : List ℕ) (m n : ℕ) → Longest Legal e m → Longest Legal e n → m < n → ⊥
not_sooner e m n a b lt = a.longest n lt b.within b.shared.0 b.shared.1

same_place : (e : List ℕ) (m n : ℕ) → Longest Legal e m → Longest Legal e n → m ≡ n
same_place e m n a b =
    ⊎_elim (λ lt. absurd (not_sooner e m n a b lt))
    (λ le. ⊎_elim (λ lt. absurd (not_sooner e n m b a lt)) (λ ge. omega arith) (cases_lt n m))
    (cases_lt m n)

-- ===== the begin, the alternative and the way
no_way : (l : List ℕ) (q : ℕ) (earlier : List (List Item)) (which : List Item) (later : List (List Item)) (w : Way) → NoWay (earlier ++ which ∷ later) l q → Fits l which q w → ⊥
no_way l q [] which later w h f = h.0 w f
no_way l q (a ∷ more) which later w h f = no_way l q more which later w h.1 f

not_earlier : (is : List Item) (l : List ℕ) (p : ℕ) (r t : Region) (f : First is l p r) (g : First is l p t) → f.begin < g.begin → ⊥
not_earlier is l p r t f g lt =
    no_way l f.begin f.earlier f.which f.later f.way (subst (λ alts. NoWay alts l f.begin) f.among (g.no_sooner f.begin f.after lt f.edge)) f.fits

same_begin : (is : List Item) (l : List ℕ) (p : ℕ) (r t : Region) (f : First is l p r) (g : First is l p t) → f.begin ≡ g.begin
same_begin is l p r t f g =
    ⊎_elim (λ lt. absurd (not_earlier is l p r t f g lt))
    (λ le. ⊎_elim (λ lt. absurd (not_earlier is l p t r g f lt)) (λ ge. omega arith) (cases_lt g.begin f.begin))
    (cases_lt f.begin g.begin)

same_front : (a b : List Item) (xs ys : List (List Item)) → ◌≡◌ {A = List (List Item)} (a ∷ xs) (b ∷ ys) → (a ≡ b) × (xs ≡ ys)
same_front a b xs ys h = (cc, cc)

module _ (l : List ℕ) (q : ℕ) where
  same_which : (a : List (List Item)) (x : List Item) (c : List (List Item)) (v : Way) (b : List (List Item)) (y : List Item) (d : List (List Item)) (w : Way)
      → a ++ x ∷ c ≡ b ++ y ∷ d → NoWay a l q → Fits l x q v → NoWay b l q → Fits l y q w → (a ≡ b) × (x ≡ y)
  same_which [] x c v [] y d w e na fv nb fw = (refl, (same_front x y c d e).0)
  same_which [] x c v (z ∷ b) y d w e na fv nb fw = absurd (nb.0 v (subst (λ is. Fits l is q v) (same_front x z c (b ++ y ∷ d) e).0 fv))
  same_which (z ∷ a) x c v [] y d w e na fv nb fw = absurd (na.0 w (subst (λ is. Fits l is q w) (sym (same_front z y (a ++ x ∷ c) d e).0) fw))
  same_which (z ∷ a) x c v (u ∷ b) y d w e na fv nb fw =
      let s = same_front z u (a ++ x ∷ c) (b ++ y ∷ d) e in
      let k = same_which a x c v b y d w s.1 na.1 fv nb.1 fw in
      let first = s.0 in
      let rest = k.0 in (cc, k.1)

same_way : (v w : Way) → NoFurther v w → NoFurther w v → v ≡ w
same_way [] [] a b = refl
same_way [] (q ∷ w) a b = absurd b
same_way (p ∷ v) [] a b = absurd a
same_way (p ∷ v) (q ∷ w) a b =
    ⊎_elim
    (λ lt. ⊎_elim (λ gt. absurd (omega arith)) (λ s. absurd (omega (arith, s.0))) b)
    (λ s. ⊎_elim (λ gt. absurd (omega (arith, s.0))) (λ t. let first = s.0 in let rest = same_way v w s.1 t.1 in cc) b)
    a

-- ===== the groups
module _ (n : ℕ) (a : List Item) (p : ℕ) (w : Way) (r t : Region) (x : Bracketed n a p w r) (y : Bracketed n a p w t) where
  present : (k : ℕ) (s : Span) → 0 < k → group r k ≡ Some s → group t k ≡ Some s
  present k s pos h =
      let o = x.others k s pos h in
      let mine = ap (group r) (sym o.1) ∙ h in
      let here = x.paired o.0 in
      let there = y.paired o.0 in
      ap (group t) o.1 ∙ there ∙ sym here ∙ mine

absent : (n : ℕ) (a : List Item) (p : ℕ) (w : Way) (r t : Region) → Bracketed n a p w r → Bracketed n a p w t → (k : ℕ) → 0 < k → (o : Option Span) → group t k ≡ o → group r k ≡ None → group r k ≡ group t k
absent n a p w r t x y k pos None e h = h ∙ sym e
absent n a p w r t x y k pos (Some s) e h = let there = present n a p w t r y x k s pos e in cc

same_group : (n : ℕ) (a : List Item) (p : ℕ) (w : Way) (r t : Region) → Bracketed n a p w r → Bracketed n a p w t → (k : ℕ) → 0 < k → (o : Option Span) → group r k ≡ o → group r k ≡ group t k
same_group n a p w r t x y k pos (Some s) h = h ∙ sym (present n a p w r t x y k s pos h)
same_group n a p w r t x y k pos None h = absent n a p w r t x y k pos (group t k) refl h

-- two matches that are told of have one way, and so the same groups
module _ (is : List Item) (l : List ℕ) (p : ℕ) (r t : Region) (f : First is l p r) (g : First is l p t) where
  chosen_same : (f.earlier ≡ g.earlier) × (f.which ≡ g.which)
  chosen_same =
      let b = same_begin is l p r t f g in
      same_which l f.begin f.earlier f.which f.later f.way g.earlier g.which g.later g.way
      (sym f.among ∙ g.among) f.no_other f.fits
      (subst (NoWay g.earlier l) (sym b) g.no_other) (subst (λ (q : ℕ). Fits l g.which q g.way) (sym b) g.fits)

  -- the way of the second, of the alternative and from the begin of the first
  way_same : f.way ≡ g.way
  way_same =
      let b = same_begin is l p r t f g in
      let c = chosen_same.1 in
      let theirs : Fits l f.which f.begin g.way = subst (λ a. Fits l a f.begin g.way) (sym c) (subst (λ (q : ℕ). Fits l g.which q g.way) (sym b) g.fits) in
      let ours : Fits l g.which g.begin f.way = subst (λ a. Fits l a g.begin f.way) c (subst (λ (q : ℕ). Fits l f.which q f.way) b f.fits) in
      same_way f.way g.way (g.no_further f.way ours) (f.no_further g.way theirs)

  theirs_here : Bracketed (pairs_of f.earlier) f.which f.begin f.way t
  theirs_here =
      let one = subst (λ (v : Way). Bracketed (pairs_of g.earlier) g.which g.begin v t) (sym way_same) g.groups in
      let two = subst (λ (q : ℕ). Bracketed (pairs_of g.earlier) g.which q f.way t) (sym (same_begin is l p r t f g)) one in
      let three = subst (λ a. Bracketed (pairs_of g.earlier) a f.begin f.way t) (sym chosen_same.1) two in
      subst (λ alts. Bracketed (pairs_of alts) f.which f.begin f.way t) (sym chosen_same.0) three

  groups_same : (k : ℕ) → group r k ≡ group t k
  groups_same zero =
      let b = same_begin is l p r t f g in
      let w = way_same in
      let x = f.whole in
      let y = g.whole in
      x ∙ (λ i. Some (span (b i) (end_of (b i) (w i)))) ∙ sym y
  groups_same (suc k) = same_group (pairs_of f.earlier) f.which f.begin f.way r t f.groups theirs_here (suc k) (omega arith) (group r (suc k)) refl

-- where one has a match, the other does not have none
missed : (e l : List ℕ) (p : ℕ) (r : Region) → Told e l p (Ok (Some r)) → Told e l p (Ok None) → ⊥
missed e l p r x y =
    let is : List Item = x.0.0 in
    let spells : Spells is e = (x.0.1, x.0.2) in
    let f = x.3 is spells in
    no_way l f.begin f.earlier f.which f.later f.way (subst (λ alts. NoWay alts l f.begin) f.among (y.1 x.1 x.2 is spells f.begin f.after f.edge)) f.fits

one_answer : (e l : List ℕ) (p : ℕ) (a b : Answer) → Told e l p a → Told e l p b → Agrees a b
one_answer e l p (Err a) (Err b) x y = same_place e a.at b.at x y
one_answer e l p (Err a) (Ok (Some t)) x y = x.illegal y.0
one_answer e l p (Err a) (Ok None) x y = x.illegal y.0
one_answer e l p (Ok (Some r)) (Err b) x y = y.illegal x.0
one_answer e l p (Ok (Some r)) (Ok (Some t)) x y =
    let is : List Item = x.0.0 in
    let spells : Spells is e = (x.0.1, x.0.2) in
    groups_same is l p r t (x.3 is spells) (y.3 is spells)
one_answer e l p (Ok (Some r)) (Ok None) x y = missed e l p r x y
one_answer e l p (Ok None) (Err b) x y = y.illegal x.0
one_answer e l p (Ok None) (Ok (Some t)) x y = missed e l p t y x
one_answer e l p (Ok None) (Ok None) x y = tt

pub only : (e l : List ℕ) (p : ℕ) (a : Answer) → Told e l p a → Agrees a (meaning e l p)
only e l p a h = one_answer e l p a (meaning e l p) h (told_meaning e l p)
