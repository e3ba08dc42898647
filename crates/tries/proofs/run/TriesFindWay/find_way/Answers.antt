use Rattle.std.proofs.Common.{◌≡◌, ◌++◌, length, take, drop, ap, ◌∙◌}
use Rattle.std.specs.Prelude.{reverse}
use Rattle.std.proofs.lemmas.List.{length-reverse}
use Rattle.tries.proofs.Tries.{none_found, found, refilled}
use Rattle.tries.proofs.run.TriesFindWay.find_way.Goals as goal

pub returns-in_default-clause-found : goal.returns-in_default-clause-found
returns-in_default-clause-found g c e is serves begins = none_found begins c.in_ok-end.ensures.tried c.in_default.is

pub returns-clause-found : goal.returns-clause-found
returns-clause-found g c e is serves begins =
    let held = c.replace-brackets.result.items in
    let turned = c.reverse.new.self in
    let noted = c.run.new.self.brackets.items in
    let same : held ≡ noted = ap (λ v. v.items) c.replace-brackets.ensures.value in
    let turn : turned ≡ reverse held = c.reverse.ensures.after ∙ ap reverse c.deref_mut.ensures.value in
    let whole : take (length held) (turned ++ drop (length turned) held) ≡ reverse noted =
    refilled held turned (ap length turn ∙ length-reverse held) ∙ turn ∙ ap reverse same in
    let f = found begins c.in_ok-end.ensures.tried c.in-Some.is c.clear.ensures in
    (f.0, f.1, f.2, λ fits. whole ∙ f.3 fits)
