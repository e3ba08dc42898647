use Rattle.std.proofs.Common.{◌≡◌, Ok, Some, sym, ap, ◌∙◌}
use Rattle.matches.proofs.Chains.{further}
use Rattle.matches.proofs.step.next_match.Goals as goal

-- no lawful matcher finds a region without group 0
pub unwrap-span-requires : goal.unwrap-span-requires
unwrap-span-requires g c =
    let found : Ok (Some c.in-Some.region) ≡ g.M.Matcher.means c.args.matcher.now c.args.expression.now c.args.line.now c.args.place = ap Ok (sym c.in-Some.is) ∙ sym c.in_ok-region.was ∙ c.search_text.ensures.means in
    let p = (g.met.M.Matcher.lawful c.args.matcher.now).proper c.args.expression.now c.args.line.now c.args.place c.in-Some.region (sym found) in
    rw (c.group.ensures, p.present)

pub returns-clause-onward : goal.returns-clause-onward
returns-clause-onward g c =
    let found : Ok (Some c.in-Some.region) ≡ g.M.Matcher.means c.args.matcher.now c.args.expression.now c.args.line.now c.args.place = ap Ok (sym c.in-Some.is) ∙ sym c.in_ok-region.was ∙ c.search_text.ensures.means in
    further (g.M.Matcher.means c.args.matcher.now) (g.met.M.Matcher.lawful c.args.matcher.now) c.args.expression.now c.args.line.now c.args.place _
    (record { is = sym found; whole = sym c.group.ensures ∙ c.unwrap-span.ensures; on = c.next_place-next.ensures.value })
