-- Where the groups of a match lie: where the way stood at their brackets. Assumes nothing.
use Rattle.std.specs.Prelude.{◌≡◌, ℕ, zero, suc, ◌+◌, ◌<◌, List, [], ◌∷◌, ◌++◌, Some}
use Rattle.matcher.specs.declared.answer.Span.{Span}
use Rattle.matcher.specs.declared.answer.Region.{Region}
use Rattle.matcher.specs.Regions.{group, span}
use Rattle.grammar.specs.Grammar.{Item, takes, start, end, never, opens, closes, bar}
use Rattle.ways.specs.Match.{Way}
use Rattle.ways.specs.Meaning.{pairs}

-- the items close the d brackets that are open before them, each that they open, and no other
abbrev pub Closing : ℕ → List Item → Type 0
Closing d [] = d ≡ 0
Closing d (takes x t ∷ is) = Closing d is
Closing d (start ∷ is) = Closing d is
Closing d (end ∷ is) = Closing d is
Closing d (never n ∷ is) = Closing d is
Closing d (opens ∷ is) = Closing (suc d) is
Closing zero (closes ∷ is) = ⊥
Closing (suc d) (closes ∷ is) = Closing d is
Closing d (bar ∷ is) = Closing d is

-- the items close the brackets that they open, and no other
abbrev pub Balanced : List Item → Type 0
Balanced is = Closing 0 is

-- an opening bracket among the items, and the one that closes it
pub record Pair (items : List Item) : Type 0 where
  pub front : List Item
  pub inner : List Item
  pub behind : List Item
  pub split : items ≡ front ++ opens ∷ (inner ++ closes ∷ behind)
  pub balanced : Balanced inner

-- where a way from p has come with these items, the first of those that it is for
abbrev pub reached : List Item → ℕ → Way → ℕ
reached [] p w = p
reached (x ∷ is) p [] = p
reached (x ∷ is) p (q ∷ w) = reached is q w

-- the groups of a match of the items from p by a way; n pairs were opened before these items
pub record Bracketed (n : ℕ) (items : List Item) (p : ℕ) (w : Way) (r : Region) : Type 0 where
  -- the group of a pair, numbered by opening, lies from where its opening bracket stood to where its closing one stood
  pub paired : (x : Pair items) → group r (suc (n + pairs x.front)) ≡ Some (span (reached x.front p w) (reached (x.front ++ opens ∷ x.inner) p w))
  -- a group that is present, but for group 0, is that of a pair
  pub others : (k : ℕ) (s : Span) → 0 < k → group r k ≡ Some s → (x : Pair items) × (k ≡ suc (n + pairs x.front))
