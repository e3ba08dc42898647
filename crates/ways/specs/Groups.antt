-- Where the groups of a match lie. Assumes nothing.
use Rattle.std.specs.Prelude.{ℕ, suc, List, [], ◌∷◌, replicate, Some, None, Option, slice_set}
use Rattle.matcher.specs.declared.answer.Span.{Span}
use Rattle.matcher.specs.declared.answer.Region.{Region}
use Rattle.matcher.specs.Regions.{group, span}
use Rattle.grammar.specs.Grammar.{Item, takes, start, end, never, opens, closes, bar}
use Rattle.ways.specs.Match.{Way}

-- the region, how many brackets were opened, and the numbers of those that are open, the innermost first
pub record Laying : Type 0 where
  pub opened : ℕ
  pub inner : List ℕ
  pub region : Region

abbrev pub blank : Region
blank = record { groups = replicate 16 None }

abbrev pub put : ℕ → ℕ → ℕ → Region → Region
put k b e r = record { groups = slice_set r.groups k (Some (span b e)) }

-- the bracket with the next number opens at q
abbrev pub opening : ℕ → Laying → Laying
opening q y = record { opened = suc y.opened; inner = suc y.opened ∷ y.inner; region = put (suc y.opened) q q y.region }

abbrev pub begin_of : Option Span → ℕ
begin_of None = 0
begin_of (Some s) = s.begin

-- the innermost open bracket closes at q
abbrev pub closing_on : ℕ → ℕ → List ℕ → Region → Laying
closing_on q n [] r = record { opened = n; inner = []; region = r }
closing_on q n (k ∷ ks) r = record { opened = n; inner = ks; region = put k (begin_of (group r k)) q r }

abbrev pub closing : ℕ → Laying → Laying
closing q y = closing_on q y.opened y.inner y.region

-- an item that ends at q
abbrev pub lay : Item → ℕ → Laying → Laying
lay (takes x t) q y = y
lay start q y = y
lay end q y = y
lay (never d) q y = y
lay opens q y = opening q y
lay closes q y = closing q y
lay bar q y = y

abbrev pub laid : Laying → List Item → Way → Laying
laid y [] w = y
laid y (x ∷ is) [] = y
laid y (x ∷ is) (q ∷ w) = laid (lay x q y) is w
