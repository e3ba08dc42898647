-- Where the alternatives of an expression begin. Assumes nothing.
use Rattle.std.specs.Prelude.{◌≡◌, ℕ, ◌+◌, List, [], ◌∷◌, length, drop, Some, None, Option}
use Rattle.grammar.specs.Grammar as g
use Rattle.grammar.specs.Parse.{items}
use Rattle.ways.specs.declared.start.Start.{Start}
use Rattle.ways.specs.declared.start.Alternatives.{Alternatives}
use Rattle.ways.specs.Meaning.{leading, alternatives, pairs}

-- an alternative of e begins at s: the items is, its own and those behind it, are written there, with no bracket open
pub record Begins (e : List ℕ) (s : Start) (is : List g.Item) : Type 0 where
  pub good : g.Good s.opened 0 is
  pub written : g.written is ≡ s.items.rest.now
  pub rest : is ≡ drop s.nth (items e)

-- what the next alternative is, of one that begins at s with the items is
abbrev pub After : List ℕ → Start → List g.Item → Option Start → Type 0
After e s is None = alternatives is ≡ leading is ∷ []
After e s is (Some t) = (js : List g.Item) × Begins e t js × (alternatives is ≡ leading is ∷ alternatives js) × (t.opened ≡ s.opened + pairs (leading is))

-- what follows the alternative that begins at s, if it is known
abbrev pub Known : List ℕ → Start → List g.Item → Option (Option Start) → Type 0
Known e s is None = Unit {0}
Known e s is (Some after) = After e s is after

-- the alternatives alts of e are left, and n brackets were opened before them
abbrev pub LeftFrom : List ℕ → ℕ → Option Start → Option (Option Start) → List (List g.Item) → Type 0
LeftFrom e n None known alts = alts ≡ []
LeftFrom e n (Some s) known alts = (is : List g.Item) × Begins e s is × (s.opened ≡ n) × (alternatives is ≡ alts) × Known e s is known

abbrev pub Left : List ℕ → ℕ → Alternatives → List (List g.Item) → Type 0
Left e n a alts = LeftFrom e n a.next a.known alts

-- of those that were left, r is the first, and the others are left in a
abbrev pub Gives : List ℕ → ℕ → List (List g.Item) → Option Start → Alternatives → Type 0
Gives e n [] None a = Unit {0}
Gives e n [] (Some s) a = ⊥
Gives e n (x ∷ more) None a = ⊥
Gives e n (x ∷ more) (Some s) a = (is : List g.Item) × Begins e s is × (s.opened ≡ n) × (leading is ≡ x) × Left e (n + pairs x) a more

-- whatever was left in a, r is the first of it, and the others are left in b
abbrev pub Advances : Alternatives → Option Start → Alternatives → Type 0
Advances a r b = (e : List ℕ) (n : ℕ) (alts : List (List g.Item)) → Left e n a alts → Gives e n alts r b

-- no more alternatives than this are left: each but the first has a bar of its own before it
abbrev pub count_from : Option Start → Option (Option Start) → ℕ
count_from None known = 0
count_from (Some s) None = 1 + length s.items.rest.now
count_from (Some s) (Some None) = 1
count_from (Some s) (Some (Some t)) = 2 + length t.items.rest.now

abbrev pub count_left : Alternatives → ℕ
count_left a = count_from a.next a.known
