-- The groups of a match, laid by the places of its brackets. Assumes nothing.
use Rattle.std.specs.Prelude.{◌≡◌, ℕ, List, length, reverse}
use Rattle.matcher.specs.declared.answer.Region.{Region}
use Rattle.grammar.specs.Grammar as g
use Rattle.ways.specs.declared.start.Start.{Start}
use Rattle.ways.specs.declared.find.Matched.{Matched}
use Rattle.ways.specs.Match.{Way}
use Rattle.ways.specs.Groups.{Laying as Laid}
use Rattle.ways.specs.Matched.{brackets}
use Rattle.ways.specs.Meaning.{leading, end_of, region_of}
use Rattle.ways.specs.Starts.{Begins}
use Rattle.expression.specs.declared.groups.Laying.{Laying}

-- what is laid so far; inner has the innermost bracket last
abbrev pub laid_by : Laying → Laid
laid_by y = record { opened = y.opened; inner = reverse y.inner.items; region = y.region }

-- r is the region of the match m from b on, of the alternative that begins at s
abbrev pub Regional : List ℕ → Start → ℕ → Matched → Region → Type 0
Regional e s b m r =
    (is : List g.Item) (w : Way) → Begins e s is → length w ≡ length (leading is) → m.brackets.items ≡ brackets (leading is) w → end_of b w ≡ m.end
    → r ≡ region_of s.opened (leading is) b w
