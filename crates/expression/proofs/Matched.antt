-- From the match of an alternative to that of an expression. Assumes nothing.
use Rattle.std.proofs.Common.{◌≡◌, ℕ, suc, ◌+◌, ◌-◌, ◌*◌, ◌≤◌, List, [], ◌∷◌, length, Some, None, Option, sym, refl, ap, ◌∙◌, subst, arith}
use Rattle.matcher.specs.declared.answer.Region.{Region}
use Rattle.scan.specs.Earliest.{or_else}
use Rattle.grammar.specs.Grammar as g
use Rattle.ways.specs.declared.start.Start.{Start}
use Rattle.ways.specs.declared.start.Alternatives.{Alternatives}
use Rattle.ways.specs.declared.find.Matched.{Matched}
use Rattle.ways.specs.Match.{Way, run}
use Rattle.ways.specs.Ways.{Fits, Best}
use Rattle.ways.specs.Matched.{brackets, Matches}
use Rattle.ways.specs.Meaning.{leading, pairs, region_by, first_of, at}
use Rattle.ways.specs.Starts.{Begins, Left, Gives}
use Rattle.ways.proofs.Prefers.{preferred}
use Rattle.expression.specs.Layout.{Regional}

-- a way has a place for each item
fits_long : (l : List ℕ) (js : List g.Item) (p : ℕ) (w : Way) → Fits l js p w → length w ≡ length js
fits_long l [] p [] h = refl
fits_long l [] p (q ∷ w) h = absurd h
fits_long l (x ∷ js) p [] h = absurd h
fits_long l (x ∷ js) p (q ∷ w) h = ap suc (fits_long l js q w h.1)

way_long : (l : List ℕ) (js : List g.Item) (p : ℕ) (w : Way) → run l js p ≡ Some w → length w ≡ length js
way_long l js p w e = fits_long l js p w (subst (Best (Fits l js p)) e (preferred l js p)).0

-- at most 15 pairs are opened in all
abbrev most : ℕ → ℕ → ℕ
most o d = d + 2 * (15 - o)

few : (o d : ℕ) (is : List g.Item) (w : Way) → g.Good o d is → length (brackets (leading is) w) ≤ most o d
few o d [] w h = omega arith
few o d (g.takes x t ∷ is) [] h = omega arith
few o d (g.takes x t ∷ is) (q ∷ w) h = few o d is w h.1
few o d (g.start ∷ is) [] h = omega arith
few o d (g.start ∷ is) (q ∷ w) h = few o d is w h
few o d (g.end ∷ is) [] h = omega arith
few o d (g.end ∷ is) (q ∷ w) h = few o d is w h
few o d (g.never n ∷ is) [] h = omega arith
few o d (g.never n ∷ is) (q ∷ w) h = few o d is w h.1
few o d (g.opens ∷ is) [] h = omega arith
few o d (g.opens ∷ is) (q ∷ w) h = let m = few (o + 1) (d + 1) is w h.1 in let lt = h.0 in omega arith
few o d (g.closes ∷ is) [] h = omega arith
few o d (g.closes ∷ is) (q ∷ w) h = let m = few o (d - 1) is w h.1 in let lt = h.0 in omega arith
few o d (g.bar ∷ is) w h = omega arith

-- where the alternative that begins at s matches, its region
abbrev region_from : List ℕ → ℕ → Start → List g.Item → Option Region
region_from l p s is = region_by s.opened (leading is) p (run l (leading is) p)

pub region_of_match : (e l : List ℕ) (p : ℕ) (s : Start) (m : Matched) (r : Region) → Regional e s p m r → (is : List g.Item) → Begins e s is
    → Matches (leading is) p (run l (leading is) p) (Some m) → region_from l p s is ≡ Some r
region_of_match e l p s m r regional is b h =
    let w = h.0 in
    let room : length (brackets (leading is) w) ≤ 30 = let f = few s.opened 0 is w b.good in omega arith in
    ap (region_by s.opened (leading is) p) h.1 ∙ ap Some (sym (regional is w b (way_long l (leading is) p w h.1) (h.3 room) h.2))

-- the match at p is that of the alternatives that are left
pub record From (e l : List ℕ) (p : ℕ) (a : Alternatives) : Type 0 where
  pub opened : ℕ
  pub alts : List (List g.Item)
  pub left : Left e opened a alts
  pub same : at e l p ≡ first_of l opened alts p

module _ (e l : List ℕ) (p : ℕ) (n : ℕ) (s : Start) (b : Alternatives) where
  region_at : (x : List g.Item) (is : List g.Item) → s.opened ≡ n → leading is ≡ x → region_by n x p (run l x p) ≡ region_from l p s is
  region_at x is opened lead i = region_by (sym opened i) (sym lead i) p (run l (sym lead i) p)

  pub found_in : (alts : List (List g.Item)) (r : Region) → Gives e n alts (Some s) b → ((is : List g.Item) → Begins e s is → region_from l p s is ≡ Some r) → at e l p ≡ first_of l n alts p → Some r ≡ at e l p
  found_in [] r h told same = absurd h
  found_in (x ∷ more) r h told same = sym (same ∙ ap (λ o. or_else o (first_of l (n + pairs x) more p)) (region_at x h.0 h.2 h.3 ∙ told h.0 h.1))

  pub passed_in : (alts : List (List g.Item)) → Gives e n alts (Some s) b → ((is : List g.Item) → Begins e s is → region_from l p s is ≡ None) → at e l p ≡ first_of l n alts p → From e l p b
  passed_in [] h told same = absurd h
  passed_in (x ∷ more) h told same = record {
    opened = n + pairs x;
    alts = more;
    left = h.4;
    same = same ∙ ap (λ o. or_else o (first_of l (n + pairs x) more p)) (region_at x h.0 h.2 h.3 ∙ told h.0 h.1);
  }

pub none_in : (e l : List ℕ) (p n : ℕ) (b : Alternatives) (alts : List (List g.Item)) → Gives e n alts None b → first_of l n alts p ≡ None
none_in e l p n b [] h = refl
none_in e l p n b (x ∷ more) h = absurd h
