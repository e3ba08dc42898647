-- What a byte of an expression is, by where it stands. Assumes nothing.
use Rattle.std.specs.Prelude.{ℕ, cond, ◌||◌, Some, None, Option, ◌==◌}
use Rattle.std.specs.Option.{option_map}
use Rattle.chars.specs.declared.leads.Owed.{Owed}
use Rattle.chars.specs.Sets.{digit}
use Rattle.chars.specs.Marks.{mark, unmarked, bare}
use Rattle.chars.specs.Leads.{lead_of}
use Rattle.chars.specs.declared.sets.Set.{Set}
use Rattle.chars.specs.declared.sets.Set.TheVariants.{Digits, Words, Spaces}
use Rattle.grammar.specs.declared.bytes.Kind.{Kind}
use Rattle.grammar.specs.declared.bytes.Kind.TheVariants as k
use Rattle.grammar.specs.declared.bytes.Inside.{Inside}
use Rattle.grammar.specs.declared.bytes.Inside.TheVariants as i
use Rattle.grammar.specs.declared.bytes.Escaped.{Escaped}
use Rattle.grammar.specs.declared.bytes.Escaped.TheVariants as e

abbrev pub led_by : Option Owed → Option Kind
led_by o = option_map k.Lead o

-- the first byte of a character above 127
abbrev pub leads : ℕ → Option Kind
leads b = led_by (lead_of b)

abbrev pub kind_of : ℕ → Option Kind
kind_of b =
    cond (bare b) (Some k.Bare)
    (cond (b == 124) (Some k.Bar)
    (cond (b == 40) (Some k.Open)
    (cond (b == 41) (Some k.Close)
    (cond (b == 94) (Some k.Start)
    (cond (b == 36) (Some k.End)
    (cond (b == 46) (Some k.Dot)
    (cond (b == 63 || (b == 42 || b == 43)) (Some k.Repeat)
    (cond (b == 92) (Some k.Backslash)
    (cond (b == 91) (Some k.Bracket)
    (leads b))))))))))

abbrev pub inside_of : ℕ → Option Inside
inside_of b = cond (unmarked b) (Some i.Bare) (cond (b == 92) (Some i.Backslash) (cond (b == 93) (Some i.Shut) (cond (b == 45) (Some i.Dash) None)))

-- the letter of a set
abbrev pub set_of : ℕ → Option Set
set_of b = cond (b == 100) (Some Digits) (cond (b == 119) (Some Words) (cond (b == 115) (Some Spaces) None))

abbrev pub escaped_of : ℕ → Option Escaped
escaped_of b = cond (mark b) (Some e.Mark) (cond (digit b) (Some e.Digit) (option_map e.Set (set_of b)))
