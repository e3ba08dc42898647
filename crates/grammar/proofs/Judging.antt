-- The reader refuses where it should. Assumes nothing.
use Rattle.std.proofs.Common.{◌≡◌, ℕ, Bool, List, [], ◌∷◌, Some, None, Option, sym, refl, ap, ◌∙◌, subst, arith}
use Rattle.matcher.specs.Refusals.{Judged, one_on, read_on, refuses}
use Rattle.matcher.proofs.Longest.{From, Kept, Next, judged}
use Rattle.grammar.specs.declared.reader.State.{State}
use Rattle.grammar.specs.Grammar.{Good, written, Legal}
use Rattle.grammar.specs.Parse.{Spelled}
use Rattle.grammar.specs.Reader.{next, done, begin, refusal}
use Rattle.grammar.proofs.Rests.{Rests, Sound}
use Rattle.grammar.proofs.Back.{folds}
use Rattle.grammar.proofs.Onward.{unfolds}
use Rattle.grammar.proofs.Reached.{alive, keeps}
use Rattle.grammar.proofs.Parsed.{one_way}

-- The reader on the states that are reached alone, which does as the reader does.
abbrev Reached : Type 0
Reached = (s : State) × Sound s

abbrev known : (o : Option State) → Kept Sound o → Option Reached
known None k = None
known (Some s) k = Some (s, k)

abbrev onward : Reached → ℕ → Option Reached
onward r b = known (next r.0 b) (keeps r.0 r.1 b)

abbrev ended : Reached → Bool
ended r = done r.0

abbrev Follows : Reached → List ℕ → Type 0
Follows r bs = Rests r.0 bs

abbrev Whatever : Reached → Type 0
Whatever r = Unit {0}

whatever : (o : Option Reached) → Kept Whatever o
whatever None = tt
whatever (Some r) = tt

known_on : (o : Option State) (k : Kept Sound o) (bs : List ℕ) → From Rests o bs → From Follows (known o k) bs
known_on None k bs h = h
known_on (Some s) k bs h = h

known_back : (o : Option State) (k : Kept Sound o) (bs : List ℕ) → From Follows (known o k) bs → From Rests o bs
known_back None k bs h = h
known_back (Some s) k bs h = h

follows_on : (r : Reached) (bs : List ℕ) → Follows r bs → Next onward ended Follows r bs
follows_on r [] h = unfolds r.0 r.1 [] h
follows_on r (b ∷ bs) h = known_on (next r.0 b) (keeps r.0 r.1 b) bs (unfolds r.0 r.1 (b ∷ bs) h)

follows_back : (r : Reached) (bs : List ℕ) → Next onward ended Follows r bs → Follows r bs
follows_back r [] h = folds r.0 [] h
follows_back r (b ∷ bs) h = folds r.0 (b ∷ bs) (known_back (next r.0 b) (keeps r.0 r.1 b) bs h)

same_on : (o : Option State) (k : Kept Sound o) (bs : List ℕ) → ((r : Reached) → refuses onward ended r bs ≡ refuses next done r.0 bs)
    → read_on (known o k) (λ r. refuses onward ended r bs) ≡ read_on o (λ s. refuses next done s bs)
same_on None k bs h = refl
same_on (Some s) k bs h = ap one_on (h (s, k))

same : (bs : List ℕ) (r : Reached) → refuses onward ended r bs ≡ refuses next done r.0 bs
same [] r = refl
same (b ∷ bs) r = same_on (next r.0 b) (keeps r.0 r.1 b) bs (same bs)

-- an expression is legal, or it is refused at the longest beginning that a legal one shares
pub judgement : (e : List ℕ) → Judged Legal e (refusal e)
judgement e =
    let start : Reached = (begin, ((omega arith, omega arith), tt)) in
    subst (Judged Legal e) (same e start) (judged Reached onward ended Follows Whatever (λ r _. alive r.0 r.1) (λ r _ b. whatever (onward r b)) follows_on follows_back start tt e)

spelled_by : (e : List ℕ) (o : Option ℕ) → Judged Legal e o → Spelled e o
spelled_by e None j =
    let same = one_way e 0 0 j.0 j.1 j.2 in
    (subst (Good 0 0) same j.1, ap written (sym same) ∙ j.2)
spelled_by e (Some n) j = tt

pub spelled : (e : List ℕ) → Spelled e (refusal e)
spelled e = spelled_by e (refusal e) (judgement e)
