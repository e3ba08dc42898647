-- What an answer says of the expression and the line: of all ways in which the items of an expression can take characters of the
-- line, the one with the earliest begin, then of the first alternative, then the one that goes further at the first item at
-- which two of them differ. Assumes nothing.
use Rattle.std.specs.Prelude.{◌≡◌, ℕ, ◌+◌, ◌<◌, ◌≤◌, false, List, [], ◌∷◌, ◌++◌, Some, IsUtf8, None, Ok, Err}
use Rattle.std.specs.Str.{IsCharBoundary}
use Rattle.std.specs.List.{AllByRecursion}
use Rattle.matcher.specs.declared.answer.Region.{Region}
use Rattle.matcher.specs.Answers.{Answer}
use Rattle.matcher.specs.Regions.{group, span}
use Rattle.matcher.specs.Refusals.{Longest}
use Rattle.grammar.specs.Grammar.{Item, bar, Good, written, Legal}
use Rattle.ways.specs.Match.{Way}
use Rattle.ways.specs.Ways.{Fits, NoFurther}
use Rattle.ways.specs.Meaning.{is_bar, alternatives, pairs, end_of}
use Rattle.preference.specs.Brackets.{Bracketed}

-- the items are those of the legal expression e
abbrev pub Spells : List Item → List ℕ → Type 0
Spells is e = Good 0 0 is × (written is ≡ e)

-- none of the alternatives has a way from q
abbrev pub NoWay : List (List Item) → List ℕ → ℕ → Type 0
NoWay alts l q = AllByRecursion (λ (a : List Item). (w : Way) → Fits l a q w → ⊥) alts

-- the alternatives, with a bar between each and the next
abbrev pub joined : List (List Item) → List Item
joined [] = []
joined (a ∷ []) = a
joined (a ∷ b ∷ more) = a ++ bar ∷ joined (b ∷ more)

-- the items are divided into alternatives by their bars
abbrev pub Divided : List Item → List (List Item) → Type 0
Divided is alts = (joined alts ≡ is) × AllByRecursion (λ (a : List Item). AllByRecursion (λ (x : Item). is_bar x ≡ false) a) alts

-- how many brackets the alternatives open
abbrev pub pairs_of : List (List Item) → ℕ
pairs_of [] = 0
pairs_of (a ∷ more) = pairs a + pairs_of more

-- the region is the preferred match of the items from p on
pub record First (is : List Item) (l : List ℕ) (p : ℕ) (r : Region) : Type 0 where
  pub begin : ℕ
  pub earlier : List (List Item)
  pub which : List Item
  pub later : List (List Item)
  pub way : Way
  pub edge : IsCharBoundary l begin
  pub after : p ≤ begin
  pub among : alternatives is ≡ earlier ++ which ∷ later
  pub fits : Fits l which begin way
  pub whole : group r 0 ≡ Some (span begin (end_of begin way))
  pub groups : Bracketed (pairs_of earlier) which begin way r
  pub no_sooner : (q : ℕ) → p ≤ q → q < begin → IsCharBoundary l q → NoWay (alternatives is) l q
  pub no_other : NoWay earlier l begin
  pub no_further : (v : Way) → Fits l which begin v → NoFurther v way

abbrev pub Told : List ℕ → List ℕ → ℕ → Answer → Type 0
Told e l p (Err x) = Longest Legal e x.at
Told e l p (Ok (Some r)) = Legal e × IsUtf8 l × IsCharBoundary l p × ((is : List Item) → Spells is e → First is l p r)
Told e l p (Ok None) = Legal e × (IsUtf8 l → IsCharBoundary l p → (is : List Item) → Spells is e → (q : ℕ) → p ≤ q → IsCharBoundary l q → NoWay (alternatives is) l q)

-- the same answer, group by group
abbrev pub Agrees : Answer → Answer → Type 0
Agrees (Err x) (Err y) = x.at ≡ y.at
Agrees (Err x) (Ok o) = ⊥
Agrees (Ok (Some r)) (Err y) = ⊥
Agrees (Ok (Some r)) (Ok (Some t)) = (k : ℕ) → group r k ≡ group t k
Agrees (Ok (Some r)) (Ok None) = ⊥
Agrees (Ok None) (Err y) = ⊥
Agrees (Ok None) (Ok (Some t)) = ⊥
Agrees (Ok None) (Ok None) = Unit {0}
