-- What a search for an expression answers, as it is computed. Assumes nothing.
use Rattle.std.specs.Prelude.{ℕ, ◌+◌, Bool, true, false, cond, List, [], ◌∷◌, Some, None, Option}
use Rattle.matcher.specs.declared.answer.Region.{Region}
use Rattle.matcher.specs.Laws.{Meaning}
use Rattle.scan.specs.Earliest.{or_else, earliest}
use Rattle.grammar.specs.Grammar.{Item, takes, start, end, never, opens, closes, bar}
use Rattle.grammar.specs.Reader.{refusal}
use Rattle.grammar.specs.Parse.{items}
use Rattle.ways.specs.Match.{Way, run}
use Rattle.ways.specs.Groups.{blank, put, laid}

abbrev pub is_bar : Item → Bool
is_bar (takes x t) = false
is_bar start = false
is_bar end = false
is_bar (never d) = false
is_bar opens = false
is_bar closes = false
is_bar bar = true

-- x put in front of the first alternative
abbrev pub onto : Item → List (List Item) → List (List Item)
onto x [] = (x ∷ []) ∷ []
onto x (a ∷ more) = (x ∷ a) ∷ more

-- the items, cut at each bar
abbrev pub alternatives : List Item → List (List Item)
alternatives [] = [] ∷ []
alternatives (x ∷ is) = cond (is_bar x) ([] ∷ alternatives is) (onto x (alternatives is))

-- the items up to the first bar
abbrev pub leading : List Item → List Item
leading [] = []
leading (x ∷ is) = cond (is_bar x) [] (x ∷ leading is)

abbrev pub opening : Item → ℕ
opening (takes x t) = 0
opening start = 0
opening end = 0
opening (never d) = 0
opening opens = 1
opening closes = 0
opening bar = 0

-- how many brackets the items open
abbrev pub pairs : List Item → ℕ
pairs [] = 0
pairs (x ∷ is) = opening x + pairs is

-- where a way from p ends
abbrev pub end_of : ℕ → Way → ℕ
end_of p [] = p
end_of p (q ∷ w) = end_of q w

-- group 0 is the match; n brackets were opened in the alternatives before
abbrev pub region_of : ℕ → List Item → ℕ → Way → Region
region_of n a p w = put 0 p (end_of p w) (laid (record { opened = n; inner = []; region = blank }) a w).region

abbrev pub region_by : ℕ → List Item → ℕ → Option Way → Option Region
region_by n a p None = None
region_by n a p (Some w) = Some (region_of n a p w)

-- the first alternative that matches from p
abbrev pub first_of : List ℕ → ℕ → List (List Item) → ℕ → Option Region
first_of l n [] p = None
first_of l n (a ∷ more) p = or_else (region_by n a p (run l a p)) (first_of l (n + pairs a) more p)

-- the match of an expression from p on, where one begins there
abbrev pub at : List ℕ → List ℕ → ℕ → Option Region
at e l p = first_of l 0 (alternatives (items e)) p

abbrev pub meaning : Meaning
meaning = earliest refusal at
