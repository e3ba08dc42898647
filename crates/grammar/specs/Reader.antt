-- The reader, a byte at a time. Assumes nothing.
use Rattle.std.specs.Prelude.{ℕ, ◌+◌, ◌-◌, Bool, true, false, cond, ◌&&◌, List, Some, None, Option, ◌==◌, nat_lt}
use Rattle.std.specs.Option.{option_map, unwrap_or}
use Rattle.chars.specs.declared.leads.Owed.{Owed}
use Rattle.chars.specs.Leads.{goes_on, rest_of}
use Rattle.matcher.specs.Refusals.{refuses}
use Rattle.grammar.specs.declared.bytes.Kind.{Kind}
use Rattle.grammar.specs.declared.bytes.Kind.TheVariants as k
use Rattle.grammar.specs.declared.bytes.Inside.{Inside}
use Rattle.grammar.specs.declared.bytes.Inside.TheVariants as i
use Rattle.grammar.specs.declared.bytes.Escaped.{Escaped}
use Rattle.grammar.specs.declared.bytes.Escaped.TheVariants as e
use Rattle.grammar.specs.declared.reader.Mode.{Mode}
use Rattle.grammar.specs.declared.reader.Mode.TheVariants.{Plain, Taken, Escape, Owing, ClassOpen, ClassFirst, Class, ClassLast, ClassEscape, Range, RangeEscape}
use Rattle.grammar.specs.declared.reader.State.{State}
use Rattle.grammar.specs.Bytes.{kind_of, inside_of, escaped_of}

-- g pairs have been opened, and d of them are open
abbrev pub at : ℕ → ℕ → Mode → Option State
at g d m = Some (record { groups = g; depth = d; mode = m })

-- the same pairs, in another mode
abbrev pub to : State → Mode → Option State
to s m = at s.groups s.depth m

abbrev pub opened : State → Option State
opened s = cond (nat_lt s.groups 15 && nat_lt s.depth 15) (at (s.groups + 1) (s.depth + 1) Plain) None

abbrev pub closed : State → Option State
closed s = cond (nat_lt 0 s.depth) (at s.groups (s.depth - 1) Plain) None

-- between items: a repeat has nothing to repeat. The depth never passes the number of groups
abbrev pub outside : State → Option Kind → Option State
outside s (Some k.Bare) = to s Taken
outside s (Some (k.Lead o)) = to s (Owing o)
outside s (Some k.Bar) = cond (s.depth == 0) (to s Plain) None
outside s (Some k.Open) = opened s
outside s (Some k.Close) = closed s
outside s (Some k.Start) = to s Plain
outside s (Some k.End) = to s Plain
outside s (Some k.Dot) = to s Taken
outside s (Some k.Repeat) = None
outside s (Some k.Backslash) = to s Escape
outside s (Some k.Bracket) = to s ClassOpen
outside s None = None

-- behind a piece: its repeat, or what stands between items
abbrev pub behind_piece : State → Option Kind → Option State
behind_piece s (Some k.Repeat) = to s Plain
behind_piece s other = outside s other

-- the first member of a class
abbrev pub first : State → ℕ → Option Inside → Option State
first s b (Some i.Bare) = to s (ClassLast b)
first s b (Some i.Backslash) = to s ClassEscape
first s b (Some i.Shut) = None
first s b (Some i.Dash) = None
first s b None = None

-- after a member that begins no range
abbrev pub within : State → ℕ → Option Inside → Option State
within s b (Some i.Bare) = to s (ClassLast b)
within s b (Some i.Backslash) = to s ClassEscape
within s b (Some i.Shut) = to s Taken
within s b (Some i.Dash) = None
within s b None = None

-- after the character lo: no ASCII character is above 127
abbrev pub last : State → ℕ → ℕ → Option Inside → Option State
last s lo b (Some i.Bare) = to s (ClassLast b)
last s lo b (Some i.Backslash) = to s ClassEscape
last s lo b (Some i.Shut) = to s Taken
last s lo b (Some i.Dash) = cond (nat_lt lo 127) (to s (Range lo)) None
last s lo b None = None

-- after the dash of a range from lo: no mark is above 126
abbrev pub upper : State → ℕ → ℕ → Option Inside → Option State
upper s lo b (Some i.Bare) = cond (nat_lt lo b) (to s Class) None
upper s lo b (Some i.Backslash) = cond (nat_lt lo 126) (to s (RangeEscape lo)) None
upper s lo b (Some i.Shut) = None
upper s lo b (Some i.Dash) = None
upper s lo b None = None

-- after a backslash: outside of a class, in it, and at the upper end of a range
abbrev pub escape : State → Option Escaped → Option State
escape s (Some e.Mark) = to s Taken
escape s (Some e.Digit) = to s Plain
escape s (Some (e.Set x)) = to s Taken
escape s None = None

abbrev pub class_escape : State → ℕ → Option Escaped → Option State
class_escape s b (Some e.Mark) = to s (ClassLast b)
class_escape s b (Some e.Digit) = None
class_escape s b (Some (e.Set x)) = to s Class
class_escape s b None = None

abbrev pub range_escape : State → ℕ → ℕ → Option Escaped → Option State
range_escape s lo b (Some e.Mark) = cond (nat_lt lo b) (to s Class) None
range_escape s lo b (Some e.Digit) = None
range_escape s lo b (Some (e.Set x)) = None
range_escape s lo b None = None

-- so many bytes are owed yet
abbrev pub owed : ℕ → Mode
owed n = unwrap_or (option_map Owing (rest_of n)) Taken

abbrev pub owing : State → Owed → ℕ → Option State
owing s o b = cond (goes_on o b) (to s (owed o.more)) None

abbrev pub moved : State → Mode → ℕ → Option State
moved s Plain b = outside s (kind_of b)
moved s Taken b = behind_piece s (kind_of b)
moved s Escape b = escape s (escaped_of b)
moved s (Owing o) b = owing s o b
moved s ClassOpen b = cond (b == 94) (to s ClassFirst) (first s b (inside_of b))
moved s ClassFirst b = first s b (inside_of b)
moved s Class b = within s b (inside_of b)
moved s (ClassLast lo) b = last s lo b (inside_of b)
moved s ClassEscape b = class_escape s b (escaped_of b)
moved s (Range lo) b = upper s lo b (inside_of b)
moved s (RangeEscape lo) b = range_escape s lo b (escaped_of b)

-- the state after one byte more
abbrev pub next : State → ℕ → Option State
next s b = moved s s.mode b

abbrev pub ends : Mode → Bool
ends Plain = true
ends Taken = true
ends Escape = false
ends (Owing o) = false
ends ClassOpen = false
ends ClassFirst = false
ends Class = false
ends (ClassLast lo) = false
ends ClassEscape = false
ends (Range lo) = false
ends (RangeEscape lo) = false

-- an expression may end here
abbrev pub done : State → Bool
done s = ends s.mode && s.depth == 0

abbrev pub begin : State
begin = record { groups = 0; depth = 0; mode = Plain }

abbrev pub refusal : List ℕ → Option ℕ
refusal e = refuses next done begin e
