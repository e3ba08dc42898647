-- Where an expression is refused. Assumes nothing.
use Rattle.std.specs.Prelude.{ℕ, ◌+◌, ◌<◌, ◌≤◌, Bool, cond, List, [], ◌∷◌, ◌++◌, length, take, Some, None, Option, Result, Ok, Err}
use Rattle.matcher.specs.declared.answer.Illegal.{Illegal}
use Rattle.matcher.specs.Answers.{illegal}

-- n is the length of the longest beginning of e that something legal shares: some legal expression begins with the first n
-- bytes of e, and none with more of it
pub record Longest (Legal : List ℕ → Type 0) (e : List ℕ) (n : ℕ) : Type 0 where
  pub within : n ≤ length e
  pub illegal : Legal e → ⊥
  pub shared : (t : List ℕ) × Legal (take n e ++ t)
  pub longest : (m : ℕ) → n < m → m ≤ length e → (t : List ℕ) → Legal (take m e ++ t) → ⊥

-- the judgement on e: none where it is legal, and else the place
abbrev pub Judged : (List ℕ → Type 0) → List ℕ → Option ℕ → Type 0
Judged Legal e None = Legal e
Judged Legal e (Some n) = Longest Legal e n

-- A reader goes from state to state, a byte at a time. It stops at the first byte that its state does not take, or at the end
-- if its state may not end there.
abbrev pub one_on : Option ℕ → Option ℕ
one_on None = None
one_on (Some n) = Some (n + 1)

abbrev pub read_on : {S : Type 0} → Option S → (S → Option ℕ) → Option ℕ
read_on None f = Some 0
read_on (Some s) f = one_on (f s)

abbrev pub refuses : {S : Type 0} → (S → ℕ → Option S) → (S → Bool) → S → List ℕ → Option ℕ
refuses next done s [] = cond (done s) None (Some 0)
refuses next done s (b ∷ bs) = read_on (next s b) (λ after. refuses next done after bs)

-- the same place, as an error
abbrev pub verdict : Option ℕ → Result (Unit {0}) Illegal
verdict None = Ok tt
verdict (Some n) = Err (illegal n)
