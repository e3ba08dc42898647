use Rattle.std.proofs.Common.{◌≡◌, Break, false, ap, ◌∙◌, rules}
use Rattle.std.specs.ControlFlow.{control_flow_from_branch}
use Rattle.std.specs.Option.{unwrap_or}
use Rattle.grammar.specs.declared.class.Spot.TheVariants.{Fresh}
use Rattle.grammar.specs.Classes.{listed}
use Rattle.grammar.proofs.Folded.{found, listed-try_fold}
use Rattle.grammar.proofs.class.lists.Goals as goal

pub returns : goal.returns
returns c =
    let char = c.args.c in
    let is : found c.try_fold.result ≡ listed char Fresh c.args.members.now =
    listed-try_fold char _ (λ v r. v ≡ control_flow_from_branch r) (λ e r. r ≡ Break e.0) _
    (λ s b v h k. search rules) (λ v s is. is) (λ v e r is back. (e.0, is, back))
    c.iter.result _ Fresh c.try_fold.result c.try_fold.ensures.ran
    ∙ ap (listed char Fresh) c.iter.ensures.rest in
    c.unwrap_or.ensures ∙ ap (λ o. unwrap_or o false) c.break_value.ensures.value ∙ is
