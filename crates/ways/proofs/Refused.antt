-- What is refused is not legal. Assumes nothing.
use Rattle.std.proofs.Common.{◌≡◌, ℕ, List, Some, subst}
use Rattle.matcher.specs.Refusals.{Judged}
use Rattle.grammar.specs.Grammar.{Legal}
use Rattle.grammar.specs.Reader.{refusal}
use Rattle.grammar.proofs.Judging.{judgement}

pub not_legal : (e : List ℕ) (n : ℕ) → refusal e ≡ Some n → Legal e → ⊥
not_legal e n refused = (subst (Judged Legal e) refused (judgement e)).illegal
