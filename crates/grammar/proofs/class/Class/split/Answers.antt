use Rattle.std.proofs.Common.{◌++◌, sym, ap, subst, ◌∙◌}
use lib.Utf8.{encode}
use Rattle.grammar.specs.Classes.{Opens}
use Rattle.grammar.proofs.Listed.{Seen, seen, unseen, opens}
use Rattle.grammar.proofs.class.Class.split.Goals as goal
use Rattle.grammar.proofs.class.Class.split.Goals.{in-Some, in-None}

pub returns-clause-negated : goal.returns-clause-negated
returns-clause-negated c =
    let text = c.args.text.now in
    elim c.match-strip_prefix.branch [
      | in-Some w ↦
          let h = w.in-Some.ensures.cases in
          let from = h.1.split ∙ ap (λ l. encode 94 ++ l) (sym h.2) in
          ap (λ p. p.0) w.negated-is ∙ (seen text w.in-Some.members.now from).0
      | in-None w ↦ ap (λ p. p.0) w.negated-is ∙ (unseen text w.in-None.ensures.cases).0
    ]

pub returns-clause-members : goal.returns-clause-members
returns-clause-members c =
    let text = c.args.text.now in
    c.as_bytes.ensures.value
    ∙ elim c.match-strip_prefix.branch [
      | in-Some w ↦
          let h = w.in-Some.ensures.cases in
          let from = h.1.split ∙ ap (λ l. encode 94 ++ l) (sym h.2) in
          ap (λ p. p.1.now) w.negated-is ∙ (seen text w.in-Some.members.now from).1
      | in-None w ↦ ap (λ p. p.1.now) w.negated-is ∙ (unseen text w.in-None.ensures.cases).1
    ]

pub returns-clause-opens : goal.returns-clause-opens
returns-clause-opens c =
    let text = c.args.text.now in
    let split = c.match-strip_prefix.negated in
    let after = c.after_class.result.now in
    let is : Seen text split.0 split.1.now = elim c.match-strip_prefix.branch [
      | in-Some w ↦
          let h = w.in-Some.ensures.cases in
          let from = h.1.split ∙ ap (λ l. encode 94 ++ l) (sym h.2) in
          subst (λ p. Seen text p.0 p.1.now) (sym w.negated-is) (seen text w.in-Some.members.now from)
      | in-None w ↦ subst (λ p. Seen text p.0 p.1.now) (sym w.negated-is) (unseen text w.in-None.ensures.cases)
    ] in
    let held = opens text split.1.now split.0 after is c.after_class.ensures.shut in
    subst (λ bytes. Opens text split.0 bytes after) (sym c.as_bytes.ensures.value) held
