-- The alternative that a match was found with. Assumes nothing.
use Rattle.std.proofs.Common.{◌≡◌, ℕ, ◌+◌, List, [], ◌∷◌, ◌++◌, Some, None, Option, sym, refl, ap, ◌∙◌, arith}
use Rattle.std.specs.List.{AllByRecursion}
use Rattle.matcher.specs.declared.answer.Region.{Region}
use Rattle.scan.specs.Earliest.{or_else}
use Rattle.grammar.specs.Grammar.{Item}
use Rattle.ways.specs.Match.{Way, run}
use Rattle.ways.specs.Meaning.{pairs, region_of, region_by, first_of}
use Rattle.preference.specs.Found.{pairs_of}

-- the first of the alternatives that matches from p; n brackets were opened before them
pub record Chosen (l : List ℕ) (n : ℕ) (alts : List (List Item)) (p : ℕ) (r : Region) : Type 0 where
  pub earlier : List (List Item)
  pub which : List Item
  pub later : List (List Item)
  pub among : alts ≡ earlier ++ which ∷ later
  pub way : Way
  pub ran : run l which p ≡ Some way
  pub is : r ≡ region_of (n + pairs_of earlier) which p way
  pub none : AllByRecursion (λ (a : List Item). run l a p ≡ None) earlier

module _ (l : List ℕ) (p : ℕ) where
  chosen_here : (n : ℕ) (a : List Item) (more : List (List Item)) (r : Region) → (first_of l (n + pairs a) more p ≡ Some r → Chosen l (n + pairs a) more p r)
      → (o : Option Way) → run l a p ≡ o → or_else (region_by n a p o) (first_of l (n + pairs a) more p) ≡ Some r → Chosen l n (a ∷ more) p r
  chosen_here n a more r rest (Some w) e h =
      let same : region_of n a p w ≡ r = cc in
      record { earlier = []; which = a; later = more; among = refl; way = w; ran = e; is = sym same ∙ ap (λ (k : ℕ). region_of k a p w) (omega arith); none = tt }
  chosen_here n a more r rest None e h =
      let s = rest h in
      record {
        earlier = a ∷ s.earlier;
        which = s.which;
        later = s.later;
        among = ap (λ v. a ∷ v) s.among;
        way = s.way;
        ran = s.ran;
        is = s.is ∙ ap (λ (k : ℕ). region_of k s.which p s.way) (omega arith);
        none = (e, s.none);
      }

  pub chosen : (n : ℕ) (alts : List (List Item)) (r : Region) → first_of l n alts p ≡ Some r → Chosen l n alts p r
  chosen n [] r h = cc
  chosen n (a ∷ more) r h = chosen_here n a more r (chosen (n + pairs a) more r) (run l a p) refl h

  unchosen_here : (n : ℕ) (a : List Item) (more : List (List Item)) → (first_of l (n + pairs a) more p ≡ None → AllByRecursion (λ (b : List Item). run l b p ≡ None) more)
      → (o : Option Way) → run l a p ≡ o → or_else (region_by n a p o) (first_of l (n + pairs a) more p) ≡ None → AllByRecursion (λ (b : List Item). run l b p ≡ None) (a ∷ more)
  unchosen_here n a more rest (Some w) e h = cc
  unchosen_here n a more rest None e h = (e, rest h)

  pub unchosen : (n : ℕ) (alts : List (List Item)) → first_of l n alts p ≡ None → AllByRecursion (λ (a : List Item). run l a p ≡ None) alts
  unchosen n [] h = tt
  unchosen n (a ∷ more) h = unchosen_here n a more (unchosen (n + pairs a) more) (run l a p) refl h
