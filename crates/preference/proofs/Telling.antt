-- What an answer says of the line. Assumes nothing.
use Rattle.std.proofs.Common.{◌≡◌, ℕ, ◌+◌, List, [], ◌∷◌, Some, None, sym, refl, ap, ◌∙◌, subst, arith, Ok, Err}
use Rattle.std.specs.List.{AllByRecursion}
use Rattle.matcher.specs.declared.answer.Region.{Region}
use Rattle.matcher.specs.Answers.{Answer}
use Rattle.matcher.specs.Regions.{group}
use Rattle.matcher.specs.Refusals.{Longest, Judged}
use Rattle.scan.proofs.Earliest.{when_found, when_refused, when_nothing, nothing_at}
use Rattle.grammar.specs.Grammar.{Item, Legal}
use Rattle.grammar.specs.Reader.{refusal}
use Rattle.grammar.proofs.Judging.{judgement}
use Rattle.grammar.proofs.Parsed.{one_way}
use Rattle.ways.specs.Match.{run}
use Rattle.ways.specs.Ways.{Fits, Best}
use Rattle.ways.specs.Meaning.{alternatives, first_of, region_of, at, meaning}
use Rattle.ways.proofs.Prefers.{preferred}
use Rattle.preference.specs.Brackets.{Bracketed}
use Rattle.preference.specs.Found.{Spells, NoWay, pairs_of, First, Told}
use Rattle.preference.proofs.Chosen.{chosen, unchosen}
use Rattle.preference.proofs.Placing.{ran_fits, expression_lawful}
use Rattle.preference.proofs.Bracketing.{balanced, whole_group, bracketed}

legal : (e : List ℕ) → refusal e ≡ None → Legal e
legal e h = subst (Judged Legal e) h (judgement e)

refused : (e : List ℕ) (n : ℕ) → refusal e ≡ Some n → Longest Legal e n
refused e n h = subst (Judged Legal e) h (judgement e)

no_ways : (l : List ℕ) (q : ℕ) (alts : List (List Item)) → AllByRecursion (λ (a : List Item). run l a q ≡ None) alts → NoWay alts l q
no_ways l q [] h = tt
no_ways l q (a ∷ more) h = (subst (Best (Fits l a q)) h.0 (preferred l a q), no_ways l q more h.1)

at_items : (e l : List ℕ) (q : ℕ) (is : List Item) → Spells is e → at e l q ≡ first_of l 0 (alternatives is) q
at_items e l q is s = ap (λ js. first_of l 0 (alternatives js) q) (sym (one_way e 0 0 is s.0 s.1))

no_match : (e l : List ℕ) (q : ℕ) (is : List Item) → Spells is e → at e l q ≡ None → NoWay (alternatives is) l q
no_match e l q is s h = no_ways l q (alternatives is) (unchosen l q 0 (alternatives is) (sym (at_items e l q is s) ∙ h))

first : (e l : List ℕ) (p : ℕ) (r : Region) → meaning e l p ≡ Ok (Some r) → (is : List Item) → Spells is e → First is l p r
first e l p r h is sp =
    let f = when_found refusal at e l p r h in
    let b = f.begin in
    let c = chosen l b 0 (alternatives is) r (sym (at_items e l b is sp) ∙ f.here) in
    let best = ran_fits l c.which b c.way c.ran in
    let zero-on : 0 + pairs_of c.earlier ≡ pairs_of c.earlier = omega arith in
    let same : r ≡ region_of (pairs_of c.earlier) c.which b c.way = c.is ∙ ap (λ (n : ℕ). region_of n c.which b c.way) zero-on in
    let even = balanced is c.earlier c.which c.later sp.0 c.among in
    record {
      begin = b;
      earlier = c.earlier;
      which = c.which;
      later = c.later;
      way = c.way;
      edge = f.edge;
      after = f.after;
      among = c.among;
      fits = best.0;
      whole = ap (λ (t : Region). group t 0) same ∙ whole_group (pairs_of c.earlier) c.which b c.way;
      groups = subst (Bracketed (pairs_of c.earlier) c.which b c.way) (sym same) (bracketed l (pairs_of c.earlier) c.which b c.way best.0 even.0 even.1);
      no_sooner = λ q low high edge. no_match e l q is sp (f.before q low high edge);
      no_other = no_ways l b c.earlier c.none;
      no_further = best.1;
    }

pub told : (e l : List ℕ) (p : ℕ) (a : Answer) → a ≡ meaning e l p → Told e l p a
told e l p (Err x) h = refused e x.at (when_refused refusal at e l p x (sym h))
told e l p (Ok (Some r)) h =
    let text = expression_lawful.inside e l p r (sym h) in
    (legal e (when_found refusal at e l p r (sym h)).fine, text.0, text.1, first e l p r (sym h))
told e l p (Ok None) h = (
  legal e (when_nothing refusal at e l p (sym h)),
  λ u edge is sp q low eq. no_match e l q is sp (nothing_at refusal at e l p (sym h) u edge q low eq),
)

pub told_meaning : (e l : List ℕ) (p : ℕ) → Told e l p (meaning e l p)
told_meaning e l p = told e l p (meaning e l p) refl
