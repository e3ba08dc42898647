-- The list of all matches, from the laws of a matcher. Assumes nothing.
use Rattle.std.proofs.Common.{◌≡◌, ℕ, suc, ◌-◌, ◌<◌, ◌≤◌, eqb, leb, ◌⊎◌, List, [], ◌∷◌, ◌++◌, length, Some, None, Ok, Err, IsUtf8, Option, sym, refl, ap, ◌∙◌, subst, ⊎_elim, append-nil, arith, eq-eqb, ne_eqb, le-leb}
use Rattle.std.specs.Str.{IsCharBoundary}
use Rattle.std.proofs.lemmas.Bool.{cond-true, cond-false, cases_eq, cases_lt}
use Rattle.std.proofs.lemmas.Str.{IsCharBoundary-start}
use borrow.Author.Tests.{lt-leb}
use Rattle.chars.specs.Edges.{NextEdge}
use Rattle.matcher.specs.declared.answer.Span.{Span}
use Rattle.matcher.specs.declared.answer.Region.{Region}
use Rattle.matcher.specs.declared.answer.Illegal.{Illegal}
use Rattle.matcher.specs.Answers.{Answer}
use Rattle.matcher.specs.Regions.{group}
use Rattle.matcher.specs.Laws.{Meaning, Lawful, Within}
use Rattle.matches.specs.declared.step.Match.{Match}
use Rattle.matches.specs.Steps.{go_on, GoesOn, taken, stepped, Further}
use Rattle.matches.specs.Chains.{steps, Chain, Apart, Ordered, Outside, first_from, Finds, Matches}
use Rattle.matches.proofs.Edges.{edge_next}

-- a step, taken apart
pub record Taken (l : List ℕ) (a : Answer) (m : Match) : Type 0 where
  pub is : a ≡ Ok (Some m.region)
  pub whole : group m.region 0 ≡ Some m.span
  pub on : m.next ≡ go_on l m.span

take_of : (l : List ℕ) (r : Region) (o : Option Span) (m : Match) → group r 0 ≡ o → taken l r o ≡ Ok (Some m) → Taken l (Ok (Some r)) m
take_of l r None m e h = cc
take_of l r (Some s) m e h =
    let k : ◌≡◌ {A = Match} (record { region = r; span = s; next = go_on l s }) m = cc in
    subst (λ (n : Match). Taken l (Ok (Some r)) n) k (record { is = refl; whole = e; on = refl })

step_of : (l : List ℕ) (a : Answer) (m : Match) → stepped l a ≡ Ok (Some m) → Taken l a m
step_of l (Ok None) m h = cc
step_of l (Ok (Some r)) m h = take_of l r (group r 0) m refl h
step_of l (Err x) m h = cc

pub step_is : (l : List ℕ) (a : Answer) (m : Match) → Taken l a m → Ok (Some m) ≡ stepped l a
step_is l a m t =
    let on : ◌≡◌ {A = Match} (record { region = m.region; span = m.span; next = go_on l m.span }) m = ap (λ (o : Option ℕ). record { region = m.region; span = m.span; next = o }) (sym t.on) in
    sym (ap (stepped l) t.is ∙ ap (taken l m.region) t.whole ∙ ap (λ (n : Match). Ok (Some n)) on)

-- after an empty match the next edge, else the end
pub goes_on : (l : List ℕ) (s : Span) → GoesOn l s (go_on l s)
goes_on l s = record {
  filled = λ apart. cond-false (eqb s.begin s.end) _ _ (ne_eqb s.begin s.end apart);
  empty = λ same. subst (NextEdge l s.end) (sym (cond-true (eqb s.begin s.end) _ _ (eq-eqb s.begin s.end same))) (edge_next l s.end);
}

-- Where a search from a place may lie that comes after o.
abbrev From : Option ℕ → ℕ → Type 0
From None q = ⊥
From (Some p) q = p ≤ q

abbrev Edge : List ℕ → Option ℕ → Type 0
Edge l None = Unit {0}
Edge l (Some p) = IsCharBoundary l p

-- what lies behind a match that a search goes on from
behind_edge : (l : List ℕ) (s : Span) (o : Option ℕ) (q : ℕ) → NextEdge l s.end o → From o q → s.end < q
behind_edge l s None q h from = absurd from
behind_edge l s (Some p) q h from = omega arith

behind : (l : List ℕ) (s : Span) (o : Option ℕ) (q : ℕ) → Within l s → GoesOn l s o → From o q → (s.end ≤ q) × (s.begin < q)
behind l s o q w on from =
    let le = w.ordered in
    ⊎_elim
    (λ (same : s.begin ≡ s.end). let lt = behind_edge l s o q (on.empty same) from in (omega arith, omega arith))
    (λ apart. let ge : s.end ≤ q = subst (λ (x : Option ℕ). From x q) (on.filled apart) from in (omega arith, omega arith))
    (cases_eq s.begin s.end)

-- an edge behind a match is one that the search goes on from, or lies after it
reach_edge : (l : List ℕ) (s : Span) (o : Option ℕ) (q : ℕ) → IsCharBoundary l q → NextEdge l s.end o → s.end < q → From o q
reach_edge l s None q b h lt = let in-line = b.0 in omega arith
reach_edge l s (Some p) q b h lt = ⊎_elim (λ (early : q < p). absurd (h.2 q lt early b)) (λ ge. ge) (cases_lt q p)

reach : (l : List ℕ) (s : Span) (o : Option ℕ) (q : ℕ) → IsCharBoundary l q → Within l s → GoesOn l s o → s.end ≤ q → s.begin < q → From o q
reach l s o q b w on ge gt =
    ⊎_elim
    (λ (same : s.begin ≡ s.end). reach_edge l s o q b (on.empty same) (omega arith))
    (λ apart. subst (λ (x : Option ℕ). From x q) (sym (on.filled apart)) ge)
    (cases_eq s.begin s.end)

edge_edge : (l : List ℕ) (s : Span) (o : Option ℕ) → NextEdge l s.end o → Edge l o
edge_edge l s None h = tt
edge_edge l s (Some p) h = h.1

on_edge : (l : List ℕ) (s : Span) (o : Option ℕ) → Within l s → GoesOn l s o → Edge l o
on_edge l s o w on =
    ⊎_elim
    (λ (same : s.begin ≡ s.end). edge_edge l s o (on.empty same))
    (λ apart. subst (Edge l) (sym (on.filled apart)) w.ends)
    (cases_eq s.begin s.end)

module _ (g : Meaning) (law : Lawful g) (e l : List ℕ) where
  -- a match that was found from p
  pub further : (p : ℕ) (m : Match) → Taken l (g e l p) m → Further l p m
  further p m t =
      let proper = law.proper e l p m.region t.is in
      let same : proper.whole ≡ m.span = let a = proper.present in let b = t.whole in cc in
      let first = proper.after in
      record {
        from = (law.inside e l p m.region t.is).1;
        after = subst (λ (s : Span). p ≤ s.begin) same first;
        within = proper.within 0 m.span t.whole;
        onward = subst (GoesOn l m.span) (sym t.on) (goes_on l m.span);
      }

  pub found : (p : ℕ) (m : Match) → steps g e l p ≡ Ok (Some m) → Further l p m
  found p m h = further p m (step_of l (g e l p) m h)

  no_take : (p : ℕ) (r : Region) → g e l p ≡ Ok (Some r) → taken l r (group r 0) ≡ Ok None → ⊥
  no_take p r is h =
      let x = (law.proper e l p r is).present in
      let y = ap (taken l r) x in
      cc

  none_of : (p : ℕ) (a : Answer) → g e l p ≡ a → stepped l a ≡ Ok None → g e l p ≡ Ok None
  none_of p (Ok None) is h = is
  none_of p (Ok (Some r)) is h = absurd (no_take p r is h)
  none_of p (Err x) is h = cc

  first_after : (o : Option ℕ) (s : Span) (ss : List Span) → Chain (steps g e l) o (s ∷ ss) → From o s.begin
  first_after None s ss c = c
  first_after (Some p) s ss c = subst (λ (t : Span). p ≤ t.begin) c.2 (found p c.0 c.1).after

  ordered : (o : Option ℕ) (ss : List Span) → Chain (steps g e l) o ss → Ordered l ss
  ordered o [] c = tt
  ordered None (s ∷ []) c = absurd c
  ordered (Some p) (s ∷ []) c = subst (Within l) c.2 (found p c.0 c.1).within
  ordered None (s ∷ (t ∷ ts)) c = absurd c
  ordered (Some p) (s ∷ (t ∷ ts)) c =
      let f = found p c.0 c.1 in
      let after = behind l c.0.span c.0.next t.begin f.within f.onward (first_after c.0.next t ts c.3) in (
        subst (Within l) c.2 f.within,
        subst (λ (x : Span). Apart x t) c.2 (record { ends = after.0; moves = after.1 }),
        ordered c.0.next (t ∷ ts) c.3,
      )

  module _ (u : IsUtf8 l) (q : ℕ) (b : IsCharBoundary l q) where
    here : (p : ℕ) (s : Span) (ss : List Span) (m : Match) → Taken l (g e l p) m → m.span ≡ s → p ≤ q → q ≤ s.begin → Finds (g e l q) (first_from q (s ∷ ss))
    here p s ss m t same ge le =
        let whole : group m.region 0 ≡ Some s = t.whole ∙ ap Some same in
        subst (Finds (g e l q)) (sym (cond-true (leb q s.begin) (Some s) (first_from q ss) (le-leb q s.begin le)))
        (m.region, law.again e l p q m.region s t.is whole ge le b, whole)

    later : (s : Span) → (q ≤ s.begin) ⊎ (s.end ≤ q) → s.begin < q → s.end ≤ q
    later s o lt = ⊎_elim (λ (le : q ≤ s.begin). absurd (omega arith)) (λ ge. ge) o

    complete : (o : Option ℕ) (ss : List Span) → Chain (steps g e l) o ss → Edge l o → From o q → Outside q ss → Finds (g e l q) (first_from q ss)
    complete None ss c at from out = absurd from
    complete (Some p) [] c at from out = law.never e l p q u at (none_of p (g e l p) refl c) from b
    complete (Some p) (s ∷ ss) c at from out =
        let f = found p c.0 c.1 in
        let w : Within l s = subst (Within l) c.2 f.within in
        let on : GoesOn l s c.0.next = subst (λ (x : Span). GoesOn l x c.0.next) c.2 f.onward in
        ⊎_elim
        (λ (lt : s.begin < q). subst (Finds (g e l q)) (sym (cond-false (leb q s.begin) (Some s) (first_from q ss) (lt-leb q s.begin lt)))
        (complete c.0.next ss c.3 (on_edge l s c.0.next w on) (reach l s c.0.next q b w on (later s out.0 lt) lt) out.1))
        (λ le. here p s ss c.0 (step_of l (g e l p) c.0 c.1) c.2 from le)
        (cases_lt s.begin q)

  pub matches : IsUtf8 l → (ss : List Span) → Chain (steps g e l) (Some 0) ss → Matches g e l ss
  matches u ss c = record {
    chain = c;
    ordered = ordered (Some 0) ss c;
    complete = λ q b out. complete u q b (Some 0) ss c (IsCharBoundary-start l u) (omega arith) out;
  }

-- The loop: the spans so far, and the place at which it goes on.
pub record Follows (g : Meaning) (e l : List ℕ) (listed : List Span) (o : Option ℕ) : Type 0 where
  pub joins : (ss : List Span) → Chain (steps g e l) o ss → Chain (steps g e l) (Some 0) (listed ++ ss)

-- how many places lie ahead
abbrev pub ahead : List ℕ → Option ℕ → ℕ
ahead l None = 0
ahead l (Some p) = suc (length l) - p

pub follows_end : (g : Meaning) (e l : List ℕ) (listed : List Span) (o : Option ℕ) → Chain (steps g e l) o [] → Follows g e l listed o → Chain (steps g e l) (Some 0) listed
follows_end g e l listed o c f = subst (Chain (steps g e l) (Some 0)) (append-nil listed) (f.joins [] c)

-- where a match was found, the expression is legal
pub legal : (g : Meaning) (law : Lawful g) (e l : List ℕ) (p : ℕ) (m : Match) → Ok (Some m) ≡ steps g e l p → (l' : List ℕ) (p' : ℕ) (x : Illegal) → g e l' p' ≡ Err x → ⊥
legal g law e l p m is l' p' k h =
    let x = (step_of l (g e l p) m (sym is)).is in
    let y = law.refuses e l' p' k h l p in
    cc
