-- A step leads from edge to edge of a line. Assumes nothing.
use Rattle.std.proofs.Common.{◌≡◌, ℕ, ◌+◌, Bool, true, false, cond, List, [], ◌∷◌, drop, Some, None, IsUtf8, sym, refl, ap, ◌∙◌, subst, arith}
use lib.Utf8.{encodes}
use Rattle.std.specs.Char.{len_utf8}
use Rattle.std.specs.Str.{IsCharBoundary, chars}
use Rattle.std.proofs.lemmas.Str.{IsUtf8-drop, IsCharBoundary-past_char, encodes-chars}
use Rattle.grammar.specs.Grammar.{Piece}
use Rattle.ways.specs.Match.{accepts, past, step}

module _ (l : List ℕ) (p : ℕ) (u : IsUtf8 l) (b : IsCharBoundary l p) (x : Piece) (q : ℕ) where
  past_edge : (cs : List ℕ) → chars (drop p l) ≡ cs → past x p cs ≡ Some q → IsCharBoundary l q
  past_edge [] e h = let z : ◌≡◌ {A = ℕ} 0 1 = cc in absurd (omega arith)
  past_edge (c ∷ cs) e h = at (accepts x c) h
    where
      edge : IsCharBoundary l (p + len_utf8 c)
      edge = let ut = IsUtf8-drop l p u b in IsCharBoundary-past_char l (encodes cs) p c b.0 ut (sym (encodes-chars (drop p l) ut) ∙ ap encodes e)

      at : (t : Bool) → cond t (Some (p + len_utf8 c)) None ≡ Some q → IsCharBoundary l q
      at true s = let same : p + len_utf8 c ≡ q = cc in subst (IsCharBoundary l) same edge
      at false s = let z : ◌≡◌ {A = ℕ} 0 1 = cc in absurd (omega arith)

  pub step_edge : step l x p ≡ Some q → IsCharBoundary l q
  step_edge h = past_edge (chars (drop p l)) refl h
