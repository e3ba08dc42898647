-- Off the UTF-8 lines a lawful matcher finds nothing. Assumes nothing.
use Rattle.std.proofs.Common.{◌≡◌, ℕ, List, Ok, Err, Some, None, IsUtf8, refl}
use Rattle.matcher.specs.declared.answer.Illegal.{Illegal}
use Rattle.matcher.specs.Answers.{Answer, checked}
use Rattle.matcher.specs.Laws.{Meaning, Lawful}

module _ (g : Meaning) (law : Lawful g) (e l : List ℕ) (p : ℕ) (out : IsUtf8 l → ⊥) where
  nothing_of : (a : Answer) → g e l p ≡ a → (u : Unit {0}) → Ok u ≡ checked a → Ok None ≡ a
  nothing_of (Ok None) is u legal = refl
  nothing_of (Ok (Some r)) is u legal = absurd (out (law.inside e l p r is).0)
  nothing_of (Err x) is u legal = cc

  pub nothing : (u : Unit {0}) → Ok u ≡ checked (g e l p) → Ok None ≡ g e l p
  nothing u legal = nothing_of (g e l p) refl u legal

-- the refusal of a check is that of every search
refused_of : (a : Answer) (x : Illegal) → Err x ≡ checked a → Err x ≡ a
refused_of (Ok o) x is = cc
refused_of (Err y) x is = let same : x ≡ y = cc in cc

pub refused : (a r : Answer) (x y : Illegal) → r ≡ Err y → y ≡ x → Err x ≡ checked a → r ≡ a
refused a r x y is same refuses = let h = refused_of a x refuses in cc
