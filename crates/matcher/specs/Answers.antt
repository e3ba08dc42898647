-- What a search answers, and what that says of the expression alone. Assumes nothing.
use Rattle.std.specs.Prelude.{ℕ, Option, Result, Ok, Err}
use Rattle.matcher.specs.declared.answer.Region.{Region}
use Rattle.matcher.specs.declared.answer.Illegal.{Illegal}

-- a region, or nothing; an error where the expression is not legal
abbrev pub Answer : Type 0
Answer = Result (Option Region) Illegal

abbrev pub illegal : ℕ → Illegal
illegal k = record { at = k }

-- whether the expression of the answer is legal
abbrev pub checked : Answer → Result (Unit {0}) Illegal
checked (Ok o) = Ok tt
checked (Err x) = Err x
