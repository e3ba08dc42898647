-- The alternatives are what the bars divide the items into. Assumes nothing.
use Rattle.std.proofs.Common.{◌≡◌, false, List, [], ◌∷◌, refl, ap, ◌∙◌}
use Rattle.std.specs.List.{AllByRecursion}
use Rattle.grammar.specs.Grammar.{Item, takes, start, end, never, opens, closes, bar}
use Rattle.ways.specs.Meaning.{is_bar, onto, alternatives}
use Rattle.preference.specs.Found.{joined, Divided}

abbrev Barless : List (List Item) → Type 0
Barless alts = AllByRecursion (λ (a : List Item). AllByRecursion (λ (x : Item). is_bar x ≡ false) a) alts

joined_onto : (x : Item) (alts : List (List Item)) → joined (onto x alts) ≡ x ∷ joined alts
joined_onto x [] = refl
joined_onto x (a ∷ []) = refl
joined_onto x (a ∷ b ∷ more) = refl

barless_onto : (x : Item) (alts : List (List Item)) → is_bar x ≡ false → Barless alts → Barless (onto x alts)
barless_onto x [] e h = ((e, tt), tt)
barless_onto x (a ∷ more) e h = ((e, h.0), h.1)

on : (x : Item) (is : List Item) → is_bar x ≡ false → Divided is (alternatives is) → Divided (x ∷ is) (onto x (alternatives is))
on x is e h = (joined_onto x (alternatives is) ∙ ap (λ js. x ∷ js) h.0, barless_onto x (alternatives is) e h.1)

onto_behind : (x : Item) (alts : List (List Item)) → joined ([] ∷ onto x alts) ≡ bar ∷ joined (onto x alts)
onto_behind x [] = refl
onto_behind x (a ∷ more) = refl

behind_bar : (is : List Item) → joined ([] ∷ alternatives is) ≡ bar ∷ joined (alternatives is)
behind_bar [] = refl
behind_bar (takes x t ∷ is) = onto_behind (takes x t) (alternatives is)
behind_bar (start ∷ is) = onto_behind start (alternatives is)
behind_bar (end ∷ is) = onto_behind end (alternatives is)
behind_bar (never d ∷ is) = onto_behind (never d) (alternatives is)
behind_bar (opens ∷ is) = onto_behind opens (alternatives is)
behind_bar (closes ∷ is) = onto_behind closes (alternatives is)
behind_bar (bar ∷ is) = refl

pub divided : (is : List Item) → Divided is (alternatives is)
divided [] = (refl, (tt, tt))
divided (takes x t ∷ is) = on (takes x t) is refl (divided is)
divided (start ∷ is) = on start is refl (divided is)
divided (end ∷ is) = on end is refl (divided is)
divided (never d ∷ is) = on (never d) is refl (divided is)
divided (opens ∷ is) = on opens is refl (divided is)
divided (closes ∷ is) = on closes is refl (divided is)
divided (bar ∷ is) = let h = divided is in (behind_bar is ∙ ap (λ js. bar ∷ js) h.0, (tt, h.1))
