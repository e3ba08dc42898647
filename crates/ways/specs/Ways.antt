-- Which match is the first, in words of ways: of all the ways in which the items can take characters of the line, the one that
-- takes more at the first item at which they differ. Assumes nothing.
use Rattle.std.specs.Prelude.{◌≡◌, ℕ, zero, suc, ◌<◌, ◌≤◌, true, ◌⊎◌, List, [], ◌∷◌, Some, None, Option}
use Rattle.grammar.specs.Grammar.{Times, once, maybe, many, some, Item, takes, start, end, never, opens, closes, bar}
use Rattle.ways.specs.Match.{Way, step, at_end}

-- n characters in a row, each taken by s, lead from p to q
abbrev pub Row : (ℕ → Option ℕ) → ℕ → ℕ → ℕ → Type 0
Row s zero p q = p ≡ q
Row s (suc n) p q = (m : ℕ) × (s p ≡ Some m) × Row s n m q

-- a piece may be taken so many times
abbrev pub Allows : Times → ℕ → Type 0
Allows once n = n ≡ 1
Allows maybe n = n ≤ 1
Allows many n = Unit {0}
Allows some n = 1 ≤ n

-- the item leads from p to q
abbrev pub Leads : List ℕ → Item → ℕ → ℕ → Type 0
Leads l (takes x t) p q = (n : ℕ) × Allows t n × Row (step l x) n p q
Leads l start p q = (p ≡ q) × (p ≡ 0)
Leads l end p q = (p ≡ q) × (at_end l p ≡ true)
Leads l (never d) p q = ⊥
Leads l opens p q = p ≡ q
Leads l closes p q = p ≡ q
Leads l bar p q = ⊥

-- w is a way for the items from p on
abbrev pub Fits : List ℕ → List Item → ℕ → Way → Type 0
Fits l [] p [] = Unit {0}
Fits l [] p (q ∷ w) = ⊥
Fits l (x ∷ is) p [] = ⊥
Fits l (x ∷ is) p (q ∷ w) = Leads l x p q × Fits l is q w

-- at the first item at which they differ, w goes further than v
abbrev pub NoFurther : Way → Way → Type 0
NoFurther [] w = Unit {0}
NoFurther (p ∷ v) [] = ⊥
NoFurther (p ∷ v) (q ∷ w) = (p < q) ⊎ ((p ≡ q) × NoFurther v w)

-- the preferred of the ways that P allows, or none is allowed
abbrev pub Best : (Way → Type 0) → Option Way → Type 0
Best P None = (w : Way) → P w → ⊥
Best P (Some w) = P w × ((v : Way) → P v → NoFurther v w)

abbrev pub Preferred : List ℕ → List Item → ℕ → Option Way → Type 0
Preferred l is p o = Best (Fits l is p) o
