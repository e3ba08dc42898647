-- The groups of a match lie where their brackets stood. Assumes nothing.
use Rattle.std.proofs.Common.{◌≡◌, ℕ, zero, suc, ◌+◌, ◌-◌, ◌<◌, ◌≤◌, List, [], ◌∷◌, ◌++◌, length, get_or, replicate, Some, None, Option, sym, refl, ap, ◌∙◌, subst, ⊎_elim, arith}
use Rattle.std.proofs.lemmas.List.{length-set, get_or-set_same, get_or-set_other}
use Rattle.std.proofs.lemmas.Bool.{cases_lt, cases_eq}
use Rattle.matcher.specs.declared.answer.Span.{Span}
use Rattle.matcher.specs.declared.answer.Region.{Region}
use Rattle.matcher.specs.Regions.{group, span}
use Rattle.grammar.specs.Grammar.{Item, takes, start, end, never, opens, closes, bar, Good}
use Rattle.ways.specs.Match.{Way}
use Rattle.ways.specs.Ways.{Fits}
use Rattle.ways.specs.Groups as lay
use Rattle.ways.specs.Groups.{Laying, blank, put, begin_of, closing_on, laid}
use Rattle.ways.specs.Meaning.{onto, alternatives, opening, pairs, end_of, region_of}
use Rattle.preference.specs.Brackets.{Closing, Balanced, Pair, reached, Bracketed}
use Rattle.preference.specs.Found.{pairs_of}

-- ===== the brackets of a legal expression are balanced in each alternative, at most 15 pairs in all
abbrev Later : ℕ → List (List Item) → Type 0
Later g [] = Unit {0}
Later g (a ∷ more) = Balanced a × (g + pairs a ≤ 15) × Later (g + pairs a) more

-- the same of the alternatives of items before which d brackets are open
abbrev Fine : ℕ → ℕ → List (List Item) → Type 0
Fine g d [] = ⊥
Fine g d (a ∷ more) = Closing d a × (g + pairs a ≤ 15) × Later (g + pairs a) more

fine_later : (g : ℕ) (alts : List (List Item)) → Fine g 0 alts → Later g alts
fine_later g [] h = absurd h
fine_later g (a ∷ more) h = h

fine_onto : (x : Item) (g d h e : ℕ) (alts : List (List Item)) → h ≡ g + opening x → ((a : List Item) → Closing e a → Closing d (x ∷ a)) → Fine h e alts → Fine g d (onto x alts)
fine_onto x g d h e [] same on f = absurd f
fine_onto x g d h e (a ∷ more) same on f =
    let sum : h + pairs a ≡ g + (opening x + pairs a) = omega arith in
    (on a f.0, omega (arith, f.1), subst (λ (n : ℕ). Later n more) sum f.2)

fine : (is : List Item) (g d : ℕ) → g ≤ 15 → Good g d is → Fine g d (alternatives is)
fine [] g d le h = (h, omega arith, tt)
fine (takes x t ∷ is) g d le h = fine_onto (takes x t) g d g d (alternatives is) (omega arith) (λ a c. c) (fine is g d le h.1)
fine (start ∷ is) g d le h = fine_onto start g d g d (alternatives is) (omega arith) (λ a c. c) (fine is g d le h)
fine (end ∷ is) g d le h = fine_onto end g d g d (alternatives is) (omega arith) (λ a c. c) (fine is g d le h)
fine (never n ∷ is) g d le h = fine_onto (never n) g d g d (alternatives is) (omega arith) (λ a c. c) (fine is g d le h.1)
fine (opens ∷ is) g d le h =
    fine_onto opens g d (g + 1) (d + 1) (alternatives is) refl (λ a c. let e : d + 1 ≡ suc d = omega arith in subst (λ (n : ℕ). Closing n a) e c) (fine is (g + 1) (d + 1) (omega (arith, h.0)) h.1)
fine (closes ∷ is) g zero le h = absurd (omega (arith, h.0))
fine (closes ∷ is) g (suc d) le h =
    let e : suc d - 1 ≡ d = omega arith in
    fine_onto closes g (suc d) g d (alternatives is) (omega arith) (λ a c. c) (fine is g d le (subst (λ (n : ℕ). Good g n is) e h.1))
fine (bar ∷ is) g d le h =
    let z : g + 0 ≡ g = omega arith in
    (h.0, omega arith, subst (λ (n : ℕ). Later n (alternatives is)) (sym z) (fine_later g (alternatives is) (fine is g 0 le (subst (λ (n : ℕ). Good g n is) h.0 h.1))))

later_split : (g : ℕ) (earlier : List (List Item)) (which : List Item) (later : List (List Item)) → Later g (earlier ++ which ∷ later) → Balanced which × (g + pairs_of earlier + pairs which ≤ 15)
later_split g [] which later h = (h.0, omega (arith, h.1))
later_split g (a ∷ more) which later h = let k = later_split (g + pairs a) more which later h.2 in (k.0, omega (arith, k.1))

pub balanced : (is : List Item) (earlier : List (List Item)) (which : List Item) (later : List (List Item)) → Good 0 0 is → alternatives is ≡ earlier ++ which ∷ later
    → Balanced which × (pairs_of earlier + pairs which ≤ 15)
balanced is earlier which later g e =
    let k = later_split 0 earlier which later (subst (Later 0) e (fine_later 0 (alternatives is) (fine is 0 0 (omega arith) g))) in (k.0, omega (arith, k.1))

-- ===== which numbers are open
abbrev Under : ℕ → List ℕ → Type 0
Under o [] = Unit {0}
Under o (k ∷ ks) = (k ≤ o) × Under o ks

abbrev Apart : ℕ → List ℕ → Type 0
Apart k [] = Unit {0}
Apart k (j ∷ ks) = ((j ≡ k) → ⊥) × Apart k ks

under_more : (o m : ℕ) (ks : List ℕ) → o ≤ m → Under o ks → Under m ks
under_more o m [] le h = tt
under_more o m (k ∷ ks) le h = (omega (arith, h.0), under_more o m ks le h.1)

under_apart : (o k : ℕ) (ks : List ℕ) → o < k → Under o ks → Apart k ks
under_apart o k [] lt h = tt
under_apart o k (j ∷ ks) lt h = (λ e. omega (arith, h.0), under_apart o k ks lt h.1)

-- what holds of a laying at each item
pub record Sound (y : Laying) : Type 0 where
  pub sixteen : length y.region.groups ≡ 16
  pub under : Under y.opened y.inner

closing_sound : (q o : ℕ) (ks : List ℕ) (r : Region) → length r.groups ≡ 16 → Under o ks → Sound (closing_on q o ks r)
closing_sound q o [] r s u = record { sixteen = s; under = tt }
closing_sound q o (k ∷ ks) r s u = record { sixteen = length-set r.groups k (Some (span (begin_of (group r k)) q)) ∙ s; under = u.1 }

lay_sound : (x : Item) (q : ℕ) (y : Laying) → Sound y → Sound (lay.lay x q y)
lay_sound (takes x t) q y h = h
lay_sound start q y h = h
lay_sound end q y h = h
lay_sound (never d) q y h = h
lay_sound opens q y h = record {
  sixteen = length-set y.region.groups (suc y.opened) (Some (span q q)) ∙ h.sixteen;
  under = (omega arith, under_more y.opened (suc y.opened) y.inner (omega arith) h.under);
}
lay_sound closes q y h = closing_sound q y.opened y.inner y.region h.sixteen h.under
lay_sound bar q y h = h

laid_sound : (is : List Item) (w : Way) (y : Laying) → Sound y → Sound (laid y is w)
laid_sound [] w y h = h
laid_sound (x ∷ is) [] y h = h
laid_sound (x ∷ is) (q ∷ w) y h = laid_sound is w (lay.lay x q y) (lay_sound x q y h)

closing_opened : (q o : ℕ) (ks : List ℕ) (r : Region) → (closing_on q o ks r).opened ≡ o
closing_opened q o [] r = refl
closing_opened q o (k ∷ ks) r = refl

lay_opened : (x : Item) (q : ℕ) (y : Laying) → (lay.lay x q y).opened ≡ y.opened + opening x
lay_opened (takes x t) q y = omega arith
lay_opened start q y = omega arith
lay_opened end q y = omega arith
lay_opened (never d) q y = omega arith
lay_opened opens q y = omega arith
lay_opened closes q y = closing_opened q y.opened y.inner y.region ∙ omega arith
lay_opened bar q y = omega arith

-- ===== a group stays as it is
put_other : (k j b q : ℕ) (r : Region) → (k ≡ j → ⊥) → group (put k b q r) j ≡ group r j
put_other k j b q r n = get_or-set_other r.groups k j (Some (span b q)) None (λ e. n (sym e))

put_same : (k b q : ℕ) (r : Region) → k < length r.groups → group (put k b q r) k ≡ Some (span b q)
put_same k b q r lt = get_or-set_same r.groups k (Some (span b q)) None lt

abbrev group_of : Laying → ℕ → Option Span
group_of y k = group y.region k

closing_other : (q o : ℕ) (ks : List ℕ) (r : Region) (k : ℕ) → Apart k ks → (Apart k (closing_on q o ks r).inner) × (group_of (closing_on q o ks r) k ≡ group r k)
closing_other q o [] r k a = (tt, refl)
closing_other q o (j ∷ ks) r k a = (a.1, put_other j k (begin_of (group r j)) q r a.0)

-- where its bracket was opened before the items and is not open
closed_stays : (is : List Item) (w : Way) (y : Laying) (k : ℕ) → k ≤ y.opened → Apart k y.inner → group_of (laid y is w) k ≡ group_of y k
closed_stays [] w y k le a = refl
closed_stays (x ∷ is) [] y k le a = refl
closed_stays (takes x t ∷ is) (q ∷ w) y k le a = closed_stays is w y k le a
closed_stays (start ∷ is) (q ∷ w) y k le a = closed_stays is w y k le a
closed_stays (end ∷ is) (q ∷ w) y k le a = closed_stays is w y k le a
closed_stays (never d ∷ is) (q ∷ w) y k le a = closed_stays is w y k le a
closed_stays (opens ∷ is) (q ∷ w) y k le a =
    closed_stays is w (lay.opening q y) k (omega arith) (λ e. omega arith, a) ∙ put_other (suc y.opened) k q q y.region (λ e. omega arith)
closed_stays (closes ∷ is) (q ∷ w) y k le a =
    let c = closing_other q y.opened y.inner y.region k a in
    closed_stays is w (lay.closing q y) k (omega (arith, closing_opened q y.opened y.inner y.region)) c.0 ∙ c.1
closed_stays (bar ∷ is) (q ∷ w) y k le a = closed_stays is w y k le a

-- where its bracket would be opened behind the items
unopened_stays : (is : List Item) (w : Way) (y : Laying) (k : ℕ) → y.opened + pairs is < k → Sound y → group_of (laid y is w) k ≡ group_of y k
unopened_stays [] w y k lt s = refl
unopened_stays (x ∷ is) [] y k lt s = refl
unopened_stays (takes x t ∷ is) (q ∷ w) y k lt s = unopened_stays is w y k (omega arith) s
unopened_stays (start ∷ is) (q ∷ w) y k lt s = unopened_stays is w y k (omega arith) s
unopened_stays (end ∷ is) (q ∷ w) y k lt s = unopened_stays is w y k (omega arith) s
unopened_stays (never d ∷ is) (q ∷ w) y k lt s = unopened_stays is w y k (omega arith) s
unopened_stays (opens ∷ is) (q ∷ w) y k lt s =
    unopened_stays is w (lay.opening q y) k (omega arith) (lay_sound opens q y s) ∙ put_other (suc y.opened) k q q y.region (λ e. omega arith)
unopened_stays (closes ∷ is) (q ∷ w) y k lt s =
    let c = closing_other q y.opened y.inner y.region k (under_apart y.opened k y.inner (omega arith) s.under) in
    unopened_stays is w (lay.closing q y) k (omega (arith, closing_opened q y.opened y.inner y.region)) (lay_sound closes q y s) ∙ c.1
unopened_stays (bar ∷ is) (q ∷ w) y k lt s = unopened_stays is w y k (omega arith) s

-- ===== a pair has its group
module _ (l : List ℕ) where
  -- from within: its bracket k is open, and those of xs, opened since, too
  from_inner : (inner rest : List Item) (p : ℕ) (w : Way) (o k : ℕ) (xs ks : List ℕ) (r : Region) → Fits l (inner ++ closes ∷ rest) p w → Closing (length xs) inner
      → k ≤ o → Apart k xs → Apart k ks → k < length r.groups
      → group_of (laid (record { opened = o; inner = xs ++ k ∷ ks; region = r }) (inner ++ closes ∷ rest) w) k ≡ Some (span (begin_of (group r k)) (reached inner p w))
  from_inner inner rest p [] o k xs ks r f c le ax ak lt = absurd (empty inner f)
    where
      empty : (is : List Item) → Fits l (is ++ closes ∷ rest) p [] → ⊥
      empty [] g = g
      empty (x ∷ is) g = g
  from_inner [] rest p (q ∷ w) o k [] ks r f c le ax ak lt =
      closed_stays rest w (record { opened = o; inner = ks; region = put k (begin_of (group r k)) q r }) k le ak
      ∙ put_same k (begin_of (group r k)) q r lt ∙ ap (λ (n : ℕ). Some (span (begin_of (group r k)) n)) (sym f.0)
  from_inner [] rest p (q ∷ w) o k (x ∷ xs) ks r f c le ax ak lt = absurd (omega arith)
  from_inner (takes x t ∷ is) rest p (q ∷ w) o k xs ks r f c le ax ak lt = from_inner is rest q w o k xs ks r f.1 c le ax ak lt
  from_inner (start ∷ is) rest p (q ∷ w) o k xs ks r f c le ax ak lt = from_inner is rest q w o k xs ks r f.1 c le ax ak lt
  from_inner (end ∷ is) rest p (q ∷ w) o k xs ks r f c le ax ak lt = from_inner is rest q w o k xs ks r f.1 c le ax ak lt
  from_inner (never d ∷ is) rest p (q ∷ w) o k xs ks r f c le ax ak lt = from_inner is rest q w o k xs ks r f.1 c le ax ak lt
  from_inner (opens ∷ is) rest p (q ∷ w) o k xs ks r f c le ax ak lt =
      let kept = put_other (suc o) k q q r (λ e. omega arith) in
      from_inner is rest q w (suc o) k (suc o ∷ xs) ks (put (suc o) q q r) f.1 c (omega arith) (λ e. omega arith, ax) ak (omega (arith, length-set r.groups (suc o) (Some (span q q))))
      ∙ ap (λ g. Some (span (begin_of g) (reached is q w))) kept
  from_inner (closes ∷ is) rest p (q ∷ w) o k [] ks r f c le ax ak lt = absurd c
  from_inner (closes ∷ is) rest p (q ∷ w) o k (x ∷ xs) ks r f c le ax ak lt =
      let kept = put_other x k (begin_of (group r x)) q r ax.0 in
      from_inner is rest q w o k xs ks (put x (begin_of (group r x)) q r) f.1 c le ax.1 ak (omega (arith, length-set r.groups x (Some (span (begin_of (group r x)) q))))
      ∙ ap (λ g. Some (span (begin_of g) (reached is q w))) kept
  from_inner (bar ∷ is) rest p (q ∷ w) o k xs ks r f c le ax ak lt = absurd f.0

  from_front : (front inner rest : List Item) (p : ℕ) (w : Way) (y : Laying) → Fits l (front ++ opens ∷ (inner ++ closes ∷ rest)) p w → Balanced inner → Sound y → y.opened + pairs front < 15
      → group_of (laid y (front ++ opens ∷ (inner ++ closes ∷ rest)) w) (suc (y.opened + pairs front)) ≡ Some (span (reached front p w) (reached (front ++ opens ∷ inner) p w))
  from_front [] inner rest p [] y f b s lt = absurd f
  from_front [] inner rest p (q ∷ w) y f b s lt =
      let k = suc y.opened in
      let number : suc (y.opened + 0) ≡ suc y.opened = omega arith in
      let few : suc y.opened < length y.region.groups = omega (arith, s.sixteen) in
      ap (λ (n : ℕ). group_of (laid (lay.opening q y) (inner ++ closes ∷ rest) w) n) number
      ∙ from_inner inner rest q w k k [] y.inner (put k q q y.region) f.1 b (omega arith) tt (under_apart y.opened k y.inner (omega arith) s.under)
      (omega (arith, length-set y.region.groups (suc y.opened) (Some (span q q))))
      ∙ ap (λ g. Some (span (begin_of g) (reached inner q w))) (put_same k q q y.region few)
      ∙ ap (λ (n : ℕ). Some (span n (reached inner q w))) (sym f.0)
  from_front (x ∷ front) inner rest p [] y f b s lt = absurd f
  from_front (x ∷ front) inner rest p (q ∷ w) y f b s lt =
      let more = lay_opened x q y in
      let number : suc (y.opened + (opening x + pairs front)) ≡ suc ((lay.lay x q y).opened + pairs front) = omega arith in
      ap (λ (n : ℕ). group_of (laid (lay.lay x q y) (front ++ opens ∷ (inner ++ closes ∷ rest)) w) n) number
      ∙ from_front front inner rest q w (lay.lay x q y) f.1 b (lay_sound x q y s) (omega arith)

-- ===== a number that the items open is that of a pair
-- the bracket that closes the last of the brackets that are open
pub record Closed (e : ℕ) (rest : List Item) : Type 0 where
  pub inner : List Item
  pub tail : List Item
  pub split : rest ≡ inner ++ closes ∷ tail
  pub balanced : Closing e inner

on_closed : (x : Item) (d e : ℕ) (rest : List Item) → ((is : List Item) → Closing d is → Closing e (x ∷ is)) → Closed d rest → Closed e (x ∷ rest)
on_closed x d e rest on c = record { inner = x ∷ c.inner; tail = c.tail; split = ap (λ is. x ∷ is) c.split; balanced = on c.inner c.balanced }

-- of t open brackets, e are passed by
closed : (rest : List Item) (e t : ℕ) → e < t → Closing t rest → Closed e rest
closed [] e t lt c = absurd (omega arith)
closed (takes x u ∷ is) e t lt c = on_closed (takes x u) e e is (λ js h. h) (closed is e t lt c)
closed (start ∷ is) e t lt c = on_closed start e e is (λ js h. h) (closed is e t lt c)
closed (end ∷ is) e t lt c = on_closed end e e is (λ js h. h) (closed is e t lt c)
closed (never d ∷ is) e t lt c = on_closed (never d) e e is (λ js h. h) (closed is e t lt c)
closed (opens ∷ is) e t lt c = on_closed opens (suc e) e is (λ js h. h) (closed is (suc e) (suc t) (omega arith) c)
closed (closes ∷ is) e zero lt c = absurd c
closed (closes ∷ is) zero (suc t) lt c = record { inner = []; tail = is; split = refl; balanced = refl }
closed (closes ∷ is) (suc e) (suc t) lt c = on_closed closes e (suc e) is (λ js h. h) (closed is e t (omega arith) c)
closed (bar ∷ is) e t lt c = on_closed bar e e is (λ js h. h) (closed is e t lt c)

abbrev PairOf : ℕ → ℕ → List Item → Type 0
PairOf k n is = (x : Pair is) × (k ≡ suc (n + pairs x.front))

on_pair : (x : Item) (k n m : ℕ) (is : List Item) → m ≡ n + opening x → PairOf k m is → PairOf k n (x ∷ is)
on_pair x k n m is same h = let pr = h.0 in (
  record { front = x ∷ pr.front; inner = pr.inner; behind = pr.behind; split = ap (λ js. x ∷ js) pr.split; balanced = pr.balanced },
  omega (arith, h.1),
)

pair_of : (is : List Item) (d n k : ℕ) → Closing d is → n < k → k ≤ n + pairs is → PairOf k n is
pair_of [] d n k c lo hi = absurd (omega arith)
pair_of (takes x t ∷ is) d n k c lo hi = on_pair (takes x t) k n n is (omega arith) (pair_of is d n k c lo (omega arith))
pair_of (start ∷ is) d n k c lo hi = on_pair start k n n is (omega arith) (pair_of is d n k c lo (omega arith))
pair_of (end ∷ is) d n k c lo hi = on_pair end k n n is (omega arith) (pair_of is d n k c lo (omega arith))
pair_of (never u ∷ is) d n k c lo hi = on_pair (never u) k n n is (omega arith) (pair_of is d n k c lo (omega arith))
pair_of (opens ∷ is) d n k c lo hi = ⊎_elim
    (λ (same : k ≡ suc n). let m = closed is 0 (suc d) (omega arith) c in
    (record { front = []; inner = m.inner; behind = m.tail; split = ap (λ js. opens ∷ js) m.split; balanced = m.balanced }, omega arith))
    (λ apart. on_pair opens k n (n + 1) is refl (pair_of is (suc d) (n + 1) k c (omega arith) (omega arith)))
    (cases_eq k (suc n))
pair_of (closes ∷ is) zero n k c lo hi = absurd c
pair_of (closes ∷ is) (suc d) n k c lo hi = on_pair closes k n n is (omega arith) (pair_of is d n k c lo (omega arith))
pair_of (bar ∷ is) d n k c lo hi = on_pair bar k n n is (omega arith) (pair_of is d n k c lo (omega arith))

-- ===== the groups of a match
pub nones : (n k : ℕ) → get_or {A = Option Span} (replicate n None) k None ≡ None
nones zero k = refl
nones (suc n) zero = refl
nones (suc n) (suc k) = nones n k

pairs_split : (front more : List Item) → pairs (front ++ opens ∷ more) ≡ suc (pairs front + pairs more)
pairs_split [] more = omega arith
pairs_split (x ∷ front) more = let h = pairs_split front more in omega arith

-- group 0 is the match
pub whole_group : (n : ℕ) (a : List Item) (p : ℕ) (w : Way) → group (region_of n a p w) 0 ≡ Some (span p (end_of p w))
whole_group n a p w =
    let y : Laying = record { opened = n; inner = []; region = blank } in
    let s = laid_sound a w y (record { sixteen = refl; under = tt }) in
    put_same 0 p (end_of p w) (laid y a w).region (omega (arith, s.sixteen))

module _ (l : List ℕ) (n : ℕ) (a : List Item) (p : ℕ) (w : Way) (f : Fits l a p w) (b : Balanced a) (few : n + pairs a ≤ 15) where
  abbrev fresh : Laying
  fresh = record { opened = n; inner = []; region = blank }

  whole_other : (k : ℕ) → 0 < k → group (region_of n a p w) k ≡ group_of (laid fresh a w) k
  whole_other k pos = put_other 0 k p (end_of p w) (laid fresh a w).region (λ e. omega arith)

  pair_laid : (x : Pair a) → group_of (laid fresh a w) (suc (n + pairs x.front)) ≡ Some (span (reached x.front p w) (reached (x.front ++ opens ∷ x.inner) p w))
  pair_laid x =
      let k = suc (n + pairs x.front) in
      let count = pairs_split x.front (x.inner ++ closes ∷ x.behind) in
      let all = ap pairs x.split in
      ap (λ is. group_of (laid fresh is w) k) x.split
      ∙ from_front l x.front x.inner x.behind p w fresh (subst (λ is. Fits l is p w) x.split f) x.balanced (record { sixteen = refl; under = tt }) (omega arith)

  none_laid : (k : ℕ) (s : Span) → group_of (laid fresh a w) k ≡ None → group_of (laid fresh a w) k ≡ Some s → ⊥
  none_laid k s no' h = cc

  other_laid : (k : ℕ) (s : Span) → group_of (laid fresh a w) k ≡ Some s → PairOf k n a
  other_laid k s h = ⊎_elim
      (λ lo. ⊎_elim
      (λ hi. absurd (none_laid k s (unopened_stays a w fresh k hi (record { sixteen = refl; under = tt }) ∙ nones 16 k) h))
      (λ hi. pair_of a 0 n k b lo hi)
      (cases_lt (n + pairs a) k))
      (λ le. absurd (none_laid k s (closed_stays a w fresh k le tt ∙ nones 16 k) h))
      (cases_lt n k)

  pub bracketed : Bracketed n a p w (region_of n a p w)
  bracketed = record {
    paired = λ x. whole_other (suc (n + pairs x.front)) (omega arith) ∙ pair_laid x;
    others = λ k s pos h. other_laid k s (sym (whole_other k pos) ∙ h);
  }
