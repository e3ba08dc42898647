-- The reader of word expressions, a byte at a time. Assumes nothing.
use Rattle.std.specs.Prelude.{ℕ, Bool, true, false, cond, ◌||◌, List, Some, None, Option, ◌==◌}
use Rattle.std.specs.Option.{option_map, unwrap_or}
use Rattle.chars.specs.declared.leads.Owed.{Owed}
use Rattle.chars.specs.Sets.{digit}
use Rattle.chars.specs.Marks.{mark, bare}
use Rattle.chars.specs.Leads.{lead_of, goes_on, rest_of}
use Rattle.matcher.specs.Refusals.{refuses}
use Rattle.words.specs.declared.reader.State.{State}
use Rattle.words.specs.declared.reader.State.TheVariants.{Empty, Filled, Escape, Inside}

abbrev pub lead : Option Owed → Option State
lead o = option_map Inside o

-- a character begins with b
abbrev pub begun : ℕ → Option State
begun b = cond (bare b) (Some Filled) (cond (b == 92) (Some Escape) (lead (lead_of b)))

-- so many bytes are owed yet
abbrev pub owing : ℕ → State
owing n = unwrap_or (option_map Inside (rest_of n)) Filled

abbrev pub inside : Owed → ℕ → Option State
inside o b = cond (goes_on o b) (Some (owing o.more)) None

abbrev pub next : State → ℕ → Option State
next Empty b = begun b
next Filled b = cond (b == 124) (Some Empty) (begun b)
next Escape b = cond (mark b || digit b) (Some Filled) None
next (Inside o) b = inside o b

abbrev pub done : State → Bool
done Empty = false
done Filled = true
done Escape = false
done (Inside o) = false

abbrev pub refusal : List ℕ → Option ℕ
refusal e = refuses next done Empty e
