use Rattle.std.proofs.Common.{◌≡◌, ℕ, true, List, Ok, Err, Bor, MutBor, Option, Result, IfOk, MatchResult, refl, ◌∙◌, subst, rules}
use Rattle.std.specs.Str.{IsCharBoundary}
use Rattle.matcher.specs.declared.answer.Region.{Region}
use Rattle.scan.specs.Earliest.{found_from}
use Rattle.scan.proofs.Attempts.{takes_by, finds_by}
use Rattle.grammar.specs.Parse.{items}
use Rattle.ways.specs.declared.start.Alternatives.{Alternatives}
use Rattle.ways.specs.Matched.{Keeps}
use Rattle.ways.specs.Meaning.{at, alternatives}
use Rattle.ways.specs.Starts.{Left}
use Rattle.expression.specs.Attempts.{IsTriedAt, IsFoundFrom}
use Rattle.expression.proofs.search.find_by.Goals as goal

module _ {E : Type 0} (Serves : List ℕ → List ℕ → Type 0) (a : Alternatives) (l : List ℕ) (p : ℕ) where
  found_of : (r : Result (Option Region) E)
      → ((e : List ℕ) → Serves e l → Left e 0 a (alternatives (items e)) → MatchResult r (λ o. o ≡ found_from l (at e l) p) (λ _. true ≡ true)) → IfOk r (IsFoundFrom Serves a l p)
  found_of (Ok o) h = h
  found_of (Err x) h = tt

  tried : (e : List ℕ) (r : Result (Option Region) E) → IfOk r (IsTriedAt Serves a l p) → IsCharBoundary l p → Serves e l → Left e 0 a (alternatives (items e))
      → MatchResult r (λ o. o ≡ at e l p) (λ _. true ≡ true)
  tried e (Ok o) h b serves left = h b e serves left
  tried e (Err x) h b serves left = refl

module _ {W M : Type 0} (Serves : W → List ℕ → List ℕ → Type 0) (e l : List ℕ) (a : Alternatives) where
  -- what each attempt keeps: the line, that the way serves it, and the alternatives
  abbrev Kept : Bor (List ℕ) × MutBor W × Bor Alternatives × M → Type 0
  Kept f = (f.0.now ≡ l) × Serves f.1.now e l × (f.2.now ≡ a)

  kept_on : {E : Type 0} (f f' : Bor (List ℕ) × MutBor W × Bor Alternatives × M) (p : ℕ) (r : Result (Option Region) E) → Kept f → IsCharBoundary l p → Left e 0 a (alternatives (items e))
      → IfOk r (IsTriedAt (Serves f.1.now) f.2.now f.0.now p) → Keeps Serves f.1.now f'.1.now → f'.0.now ≡ f.0.now → f'.2.now ≡ f.2.now
      → MatchResult r (λ o. o ≡ at e l p) (λ _. true ≡ true) × Kept f'
  kept_on f f' p r k b left found same line others =
      let here = subst (λ (x : Alternatives). IfOk r (IsTriedAt (Serves f.1.now) x l p)) k.2 (subst (λ (m : List ℕ). IfOk r (IsTriedAt (Serves f.1.now) f.2.now m p)) k.0 found) in
      (tried (Serves f.1.now) a l p e r here b k.1 left, (line ∙ k.0, same e l k.1, others ∙ k.2))

pub first_from-requires : goal.first_from-requires
first_from-requires g c = takes_by _ c.args.line.now (λ _. Unit {0}) (λ f p i b. tt) (λ f p i b r f' call. tt) _ tt

pub returns : goal.returns
returns g c =
    let l = c.args.line.now in
    let a = c.args.alternatives in
    found_of (g.W.FindWay.serves c.args.way.now) a l c.args.place c.first_from.result (λ e serves left.
    c.first_from.ensures (at e l) (λ _. true)
    (finds_by _ l (Kept g.W.FindWay.serves e l a) (at e l) (λ _. true)
    (λ f p k b r f' call. kept_on g.W.FindWay.serves e l a f f' p r k b left (search rules) (λ d m s. search rules) (search rules) (search rules)) _ (refl, serves, refl)))
