use Rattle.std.proofs.Common.{vec_items}
use Rattle.matches.proofs.Chains.{Follows, ahead}
use Rattle.matches.proofs.all.all_matches.Given as goal

-- what the steps from the place on give comes after what is listed
abbrev pub invariant-loop-place : goal.invariant-loop-place
invariant-loop-place g l = Follows (g.M.Matcher.means l.matcher) l.expression l.line (vec_items l.spans) l.place

abbrev pub decreases-loop-place : goal.decreases-loop-place
decreases-loop-place g l = ahead l.line l.place
