use Rattle.std.proofs.Common.{length, refl, sym, ap, ◌∙◌}
use Rattle.std.proofs.lemmas.Option.{MatchOption-at_none}
use Rattle.grammar.specs.Grammar.{once, maybe, many, some}
use Rattle.grammar.proofs.First.{repeats, maybe_read, many_read, some_read, once_read, none_read}
use Rattle.grammar.proofs.items.repeated.Goals as goal
use Rattle.grammar.proofs.items.repeated.Goals.{in-Some-eq63, in-Some-eq42, in-Some-eq43, in_default, in_default-via-in-Some+in_default, in_default-via-in_default}

pub returns-clause-repeats : goal.returns-clause-repeats
returns-clause-repeats c =
    let bytes = c.args.rest.now in
    let left = c.next.new.self.rest.now in
    let from = sym c.chars-chars.ensures.rest in
    let is = repeats c.args.piece bytes in
    elim c.match-next.branch [
      | in-Some-eq63 w ↦
          let a = w.in-Some-eq63 in
          is left maybe _ _ (maybe_read bytes left _ (from ∙ a.ensures.steps.0) a.field-0-test) w.times-is w.as_str.ensures
      | in-Some-eq42 w ↦
          let a = w.in-Some-eq42 in
          is left many _ _ (many_read bytes left _ (from ∙ a.ensures.steps.0) a.field-0-test) w.times-is w.as_str-in-Some-eq42.ensures
      | in-Some-eq43 w ↦
          let a = w.in-Some-eq43 in
          is left some _ _ (some_read bytes left _ (from ∙ a.ensures.steps.0) a.field-0-test) w.times-is w.as_str-in-Some-eq43.ensures
      | in_default w ↦
          elim w.in_default.branch [
            | in_default-via-in-Some+in_default v ↦
                let a = v.in_default in
                let other = a.field-0-test in
                is bytes once _ _ (once_read bytes left _ (from ∙ a.ensures.steps.0) other.0.0.1 other.0.1 other.1) w.times-is refl
            | in_default-via-in_default v ↦
                let empty = (MatchOption-at_none _ _ v.in_default.is c.next.ensures.steps.0).0 in
                is bytes once _ _ (none_read bytes (ap length from ∙ empty)) w.times-is refl
          ]
    ]
