use Rattle.std.proofs.Common.{ℕ, List, Some, None, Option, MatchResult, OnOk}
use Rattle.matcher.specs.Refusals.{Longest, Judged, verdict}
use Rattle.grammar.specs.Grammar.{Legal}
use Rattle.grammar.specs.Parse.{Spelled}
use Rattle.grammar.specs.Reader.{refusal}
use Rattle.grammar.proofs.Parsed.{one_way}
use Rattle.grammar.proofs.Judging.{judgement, spelled}
use Rattle.grammar.proofs.legality.check.Goals as goal

-- the judgement and the spelling, on the result
right_of : (e : List ℕ) (o : Option ℕ) → Judged Legal e o → MatchResult (verdict o) (λ _. Legal e) (λ x. Longest Legal e x.at)
right_of e None j = j
right_of e (Some n) j = j

spelled_of : (e : List ℕ) (o : Option ℕ) → Spelled e o → OnOk (verdict o) (Spelled e None)
spelled_of e None h = h
spelled_of e (Some n) h = tt

pub returns : goal.returns
returns c =
    let e = c.args.expression.now in
    let is = c.check.ensures in
    record {
      read = is;
      right = rw is (right_of e (refusal e) (judgement e));
      spelled = rw is (spelled_of e (refusal e) (spelled e));
      one_way = one_way e;
    }
