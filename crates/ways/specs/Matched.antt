-- What is found of one alternative, beside its first way. Assumes nothing.
use Rattle.std.specs.Prelude.{◌≡◌, ℕ, ◌≤◌, Bool, true, false, cond, List, [], ◌∷◌, length, Some, None, Option}
use Rattle.grammar.specs.Grammar as g
use Rattle.ways.specs.declared.find.Matched.{Matched}
use Rattle.ways.specs.Match.{Way}
use Rattle.ways.specs.Meaning.{end_of}

abbrev pub is_bracket : g.Item → Bool
is_bracket (g.takes x t) = false
is_bracket g.start = false
is_bracket g.end = false
is_bracket (g.never d) = false
is_bracket g.opens = true
is_bracket g.closes = true
is_bracket g.bar = false

-- where the brackets stand on a way
abbrev pub brackets : List g.Item → Way → List ℕ
brackets [] w = []
brackets (x ∷ is) [] = []
brackets (x ∷ is) (q ∷ w) = cond (is_bracket x) (q ∷ brackets is w) (brackets is w)

-- r is the match of the items js from p on, whose first way is o; there is room for 30 brackets
abbrev pub Matches : List g.Item → ℕ → Option Way → Option Matched → Type 0
Matches js p o None = o ≡ None
Matches js p o (Some m) = (w : Way) × (o ≡ Some w) × (end_of p w ≡ m.end) × (length (brackets js w) ≤ 30 → m.brackets.items ≡ brackets js w)

-- each expression and line that the way serves as it was, it serves as it is
abbrev pub Keeps : {W : Type 0} → (W → List ℕ → List ℕ → Type 0) → W → W → Type 0
Keeps Serves was is = (e l : List ℕ) → Serves was e l → Serves is e l
