-- A matcher that takes the first edge at which its expression matches obeys the laws. Assumes nothing.
use Rattle.std.proofs.Common.{◌≡◌, ℕ, zero, suc, ◌+◌, ◌-◌, ◌<◌, ◌≤◌, Bool, true, false, cond, ◌&&◌, List, length, Some, None, Ok, Err, IsUtf8, Option, MatchResult, sym, refl, ap, ◌∙◌, ⊎_elim, arith}
use Rattle.std.specs.Str.{IsCharBoundary}
use Rattle.std.proofs.lemmas.Bool.{and_parts, and_from, cond-true, cond-false, both_ways, cases_Bool, cases_eq}
use Rattle.chars.specs.Edges.{text, edge}
use Rattle.chars.proofs.Text.{text_tells, edge_tells}
use Rattle.matcher.specs.declared.answer.Span.{Span}
use Rattle.matcher.specs.declared.answer.Region.{Region}
use Rattle.matcher.specs.declared.answer.Illegal.{Illegal}
use Rattle.matcher.specs.Answers.{Answer, illegal, checked}
use Rattle.matcher.specs.Refusals.{verdict}
use Rattle.matcher.specs.Regions.{group, span}
use Rattle.matcher.specs.Laws.{Lawful}
use Rattle.scan.specs.Earliest.{or_else, seek, at_edges, earliest_from, found_from, answer, unless_refused, earliest, Placed}

-- where a search that found r stopped
pub record Stop (f : ℕ → Option Region) (n p : ℕ) (r : Region) : Type 0 where
  pub at : ℕ
  pub low : p ≤ at
  pub high : at < p + n
  pub here : f at ≡ Some r
  pub before : (j : ℕ) → p ≤ j → j < at → f j ≡ None

stop_or : (f : ℕ → Option Region) (n p : ℕ) (o : Option Region) (r : Region) → f p ≡ o → (seek f n (suc p) ≡ Some r → Stop f n (suc p) r) → or_else o (seek f n (suc p)) ≡ Some r → Stop f (suc n) p r
stop_or f n p (Some s) r e more h = record { at = p; low = omega arith; high = omega arith; here = cc; before = λ j a b. absurd (omega arith) }
stop_or f n p None r e more h =
    let s = more h in
    record {
      at = s.at;
      low = omega arith;
      high = omega arith;
      here = s.here;
      before = λ j a b. ⊎_elim (λ (same : j ≡ p). ap f same ∙ e) (λ apart. s.before j (omega arith) b) (cases_eq j p);
    }

pub stop : (f : ℕ → Option Region) (n p : ℕ) (r : Region) → seek f n p ≡ Some r → Stop f n p r
stop f zero p r h = cc
stop f (suc n) p r h = stop_or f n p (f p) r refl (stop f n (suc p) r) h

pub stops : (f : ℕ → Option Region) (n p q : ℕ) (r : Region) → p ≤ q → q < p + n → f q ≡ Some r → ((j : ℕ) → p ≤ j → j < q → f j ≡ None) → seek f n p ≡ Some r
stops f zero p q r a b here before = absurd (omega arith)
stops f (suc n) p q r a b here before =
    ⊎_elim
    (λ (same : p ≡ q). ap (λ o. or_else o (seek f n (suc p))) (ap f same ∙ here))
    (λ apart. ap (λ o. or_else o (seek f n (suc p))) (before p (omega arith) (omega arith)) ∙ stops f n (suc p) q r (omega arith) (omega arith) here (λ j c d. before j (omega arith) d))
    (cases_eq p q)

none_or : (f : ℕ → Option Region) (n p : ℕ) (o : Option Region) → f p ≡ o → or_else o (seek f n (suc p)) ≡ None → (f p ≡ None) × (seek f n (suc p) ≡ None)
none_or f n p (Some s) e h = cc
none_or f n p None e h = (e, h)

pub none : (f : ℕ → Option Region) (n p : ℕ) → seek f n p ≡ None → (q : ℕ) → p ≤ q → q < p + n → f q ≡ None
none f zero p h q a b = absurd (omega arith)
none f (suc n) p h q a b =
    let both = none_or f n p (f p) refl h in
    ⊎_elim (λ (same : q ≡ p). ap f same ∙ both.0) (λ apart. none f n (suc p) both.1 q (omega arith) (omega arith)) (cases_eq q p)

pub nones : (f : ℕ → Option Region) (n p : ℕ) → ((q : ℕ) → p ≤ q → q < p + n → f q ≡ None) → seek f n p ≡ None
nones f zero p h = refl
nones f (suc n) p h = ap (λ o. or_else o (seek f n (suc p))) (h p (omega arith) (omega arith)) ∙ nones f n (suc p) (λ q a b. h q (omega arith) (omega arith))

-- the answer of `earliest`, taken apart
data Case (refusal : List ℕ → Option ℕ) (e l : List ℕ) (p : ℕ) : Type 0 where
  refused : (k : ℕ) → refusal e ≡ Some k → Case refusal e l p
  outside : refusal e ≡ None → (IsUtf8 l × IsCharBoundary l p → ⊥) → Case refusal e l p
  inside : refusal e ≡ None → IsUtf8 l → IsCharBoundary l p → Case refusal e l p

answer_found : (o : Option Region) (r : Region) → answer o ≡ Ok (Some r) → o ≡ Some r
answer_found o r h = cc

answer_nothing : (o : Option Region) → answer o ≡ Ok None → o ≡ None
answer_nothing o h = cc

answer_never : (o : Option Region) (x : Illegal) → answer o ≡ Err x → ⊥
answer_never o x h = cc

-- what a check passes is not refused
pub unrefused : (o : Option ℕ) (u : Unit {0}) → Ok u ≡ verdict o → o ≡ None
unrefused None u h = refl
unrefused (Some k) u h = cc

module _ (refusal : List ℕ → Option ℕ) (at : List ℕ → List ℕ → ℕ → Option Region) where
  case_of : (e l : List ℕ) (p : ℕ) (o : Option ℕ) → refusal e ≡ o → (b : Bool) → (text l && edge l p) ≡ b → Case refusal e l p
  case_of e l p (Some k) eo b eb = refused k eo
  case_of e l p None eo true eb = let h = and_parts (text l) (edge l p) eb in inside eo ((text_tells l).0 h.0) ((edge_tells l p).0 h.1)
  case_of e l p None eo false eb =
      outside eo (λ u. let t : (text l && edge l p) ≡ true = and_from (text l) (edge l p) ((text_tells l).1 u.0) ((edge_tells l p).1 u.1) in
      cc)

  case : (e l : List ℕ) (p : ℕ) → Case refusal e l p
  case e l p = case_of e l p (refusal e) refl (text l && edge l p) refl

  -- what `earliest` is in each case
  pub at_refused : (e l : List ℕ) (p k : ℕ) → refusal e ≡ Some k → earliest refusal at e l p ≡ Err (illegal k)
  at_refused e l p k h = ap (λ o. unless_refused o (cond (text l && edge l p) (answer (earliest_from l (at e l) p)) (Ok None))) h

  pub at_outside : (e l : List ℕ) (p : ℕ) → refusal e ≡ None → (IsUtf8 l × IsCharBoundary l p → ⊥) → earliest refusal at e l p ≡ Ok None
  at_outside e l p h out =
      ap (λ o. unless_refused o (cond (text l && edge l p) (answer (earliest_from l (at e l) p)) (Ok None))) h
      ∙ ⊎_elim
      (λ t. absurd (let b = and_parts (text l) (edge l p) t in out ((text_tells l).0 b.0, (edge_tells l p).0 b.1)))
      (λ f. cond-false (text l && edge l p) (answer (earliest_from l (at e l) p)) (Ok None) f)
      (cases_Bool (text l && edge l p))

  pub at_inside : (e l : List ℕ) (p : ℕ) → refusal e ≡ None → IsUtf8 l → IsCharBoundary l p → earliest refusal at e l p ≡ answer (earliest_from l (at e l) p)
  at_inside e l p h u b =
      ap (λ o. unless_refused o (cond (text l && edge l p) (answer (earliest_from l (at e l) p)) (Ok None))) h
      ∙ cond-true (text l && edge l p) (answer (earliest_from l (at e l) p)) (Ok None) (and_from (text l) (edge l p) ((text_tells l).1 u) ((edge_tells l p).1 b))

  -- a region comes from `at`, at an edge
  edged : (e l : List ℕ) (q : ℕ) (r : Region) (b : Bool) → edge l q ≡ b → cond b (at e l q) None ≡ Some r → IsCharBoundary l q × (at e l q ≡ Some r)
  edged e l q r true x h = ((edge_tells l q).0 x, h)
  edged e l q r false x h = cc

  unedged : (e l : List ℕ) (q : ℕ) → IsCharBoundary l q → at_edges l (at e l) q ≡ None → at e l q ≡ None
  unedged e l q b h = sym (cond-true (edge l q) (at e l q) None ((edge_tells l q).1 b)) ∙ h

  -- A region that was found: the line is text, the place an edge, and it is the match at the first edge that has one.
  pub record Hit (e l : List ℕ) (p : ℕ) (r : Region) : Type 0 where
    pub fine : refusal e ≡ None
    pub utf8 : IsUtf8 l
    pub from : IsCharBoundary l p
    pub stopped : Stop (at_edges l (at e l)) (suc (length l) - p) p r

  hit_case : (e l : List ℕ) (p : ℕ) (r : Region) → earliest refusal at e l p ≡ Ok (Some r) → Case refusal e l p → Hit e l p r
  hit_case e l p r h (refused k x) = let y = at_refused e l p k x in cc
  hit_case e l p r h (outside x out) = let y = at_outside e l p x out in cc
  hit_case e l p r h (inside x u b) =
      record { fine = x; utf8 = u; from = b; stopped = stop _ _ p r (answer_found _ r (sym (at_inside e l p x u b) ∙ h)) }

  hit : (e l : List ℕ) (p : ℕ) (r : Region) → earliest refusal at e l p ≡ Ok (Some r) → Hit e l p r
  hit e l p r h = hit_case e l p r h (case e l p)

  nothing_case : (e l : List ℕ) (p : ℕ) → IsUtf8 l → IsCharBoundary l p → earliest refusal at e l p ≡ Ok None → Case refusal e l p → (refusal e ≡ None) × (earliest_from l (at e l) p ≡ None)
  nothing_case e l p u b h (refused k x) = let y = at_refused e l p k x in cc
  nothing_case e l p u b h (outside x out) = absurd (out (u, b))
  nothing_case e l p u b h (inside x v c) = (x, answer_nothing _ (sym (at_inside e l p x u b) ∙ h))

  refused_case : (e l : List ℕ) (p : ℕ) (k : Illegal) → earliest refusal at e l p ≡ Err k → Case refusal e l p → refusal e ≡ Some k.at
  refused_case e l p k h (refused j x) = let y = at_refused e l p j x in let s : illegal j ≡ k = cc in x ∙ ap (λ (i : Illegal). Some i.at) s
  refused_case e l p k h (outside x out) = let y = at_outside e l p x out in cc
  refused_case e l p k h (inside x u b) = absurd (answer_never _ k (sym (at_inside e l p x u b) ∙ h))

  -- What each answer tells of the attempts.
  pub record FoundAt (e l : List ℕ) (p : ℕ) (r : Region) : Type 0 where
    pub fine : refusal e ≡ None
    pub begin : ℕ
    pub edge : IsCharBoundary l begin
    pub after : p ≤ begin
    pub here : at e l begin ≡ Some r
    pub before : (q : ℕ) → p ≤ q → q < begin → IsCharBoundary l q → at e l q ≡ None

  pub when_found : (e l : List ℕ) (p : ℕ) (r : Region) → earliest refusal at e l p ≡ Ok (Some r) → FoundAt e l p r
  when_found e l p r h =
      let k = hit e l p r h in
      let st = k.stopped in
      let y = edged e l st.at r (edge l st.at) refl st.here in
      record {
        fine = k.fine;
        begin = st.at;
        edge = y.0;
        after = st.low;
        here = y.1;
        before = λ q low high b. unedged e l q b (st.before q low high);
      }

  pub when_refused : (e l : List ℕ) (p : ℕ) (x : Illegal) → earliest refusal at e l p ≡ Err x → refusal e ≡ Some x.at
  when_refused e l p x h = refused_case e l p x h (case e l p)

  legal_case : (e l : List ℕ) (p : ℕ) → earliest refusal at e l p ≡ Ok None → Case refusal e l p → refusal e ≡ None
  legal_case e l p h (refused k x) = let y = at_refused e l p k x in cc
  legal_case e l p h (outside x out) = x
  legal_case e l p h (inside x u b) = x

  pub when_nothing : (e l : List ℕ) (p : ℕ) → earliest refusal at e l p ≡ Ok None → refusal e ≡ None
  when_nothing e l p h = legal_case e l p h (case e l p)

  -- what an answer says of the expression alone
  checked_case : (e l : List ℕ) (p : ℕ) → Case refusal e l p → checked (earliest refusal at e l p) ≡ verdict (refusal e)
  checked_case e l p (refused k x) = ap checked (at_refused e l p k x) ∙ sym (ap verdict x)
  checked_case e l p (outside x out) = ap checked (at_outside e l p x out) ∙ sym (ap verdict x)
  checked_case e l p (inside x u b) = ap checked (at_inside e l p x u b) ∙ sym (ap verdict x)

  pub checked_earliest : (e l : List ℕ) (p : ℕ) → checked (earliest refusal at e l p) ≡ verdict (refusal e)
  checked_earliest e l p = checked_case e l p (case e l p)

  -- what `first_from` finds in a text is the answer of a legal expression
  found_answers_at : (e l : List ℕ) (p : ℕ) → refusal e ≡ None → IsUtf8 l → (b : Bool) → edge l p ≡ b → Ok (cond b (earliest_from l (at e l) p) None) ≡ earliest refusal at e l p
  found_answers_at e l p fine u true on = sym (at_inside e l p fine u ((edge_tells l p).0 on))
  found_answers_at e l p fine u false off = sym (at_outside e l p fine (λ both. both_ways (edge l p) off ((edge_tells l p).1 both.1)))

  pub found_answers : (e l : List ℕ) (p : ℕ) (u : Unit {0}) (a : Answer) → Ok u ≡ checked (earliest refusal at e l p) → IsUtf8 l
      → MatchResult a (λ o. o ≡ found_from l (at e l) p) (λ x. false ≡ true) → a ≡ earliest refusal at e l p
  found_answers e l p u (Ok o) legal utf8 h = ap Ok h ∙ found_answers_at e l p (unrefused (refusal e) u (legal ∙ checked_earliest e l p)) utf8 (edge l p) refl
  found_answers e l p u (Err x) legal utf8 h = cc

  pub nothing_at : (e l : List ℕ) (p : ℕ) → earliest refusal at e l p ≡ Ok None → IsUtf8 l → IsCharBoundary l p → (q : ℕ) → p ≤ q → IsCharBoundary l q → at e l q ≡ None
  nothing_at e l p h u b q low c =
      let k = nothing_case e l p u b h (case e l p) in
      unedged e l q c (none (at_edges l (at e l)) (suc (length l) - p) p k.1 q low (omega (arith, b.0, c.0)))

  module _ (placed : (e l : List ℕ) (p : ℕ) (r : Region) → refusal e ≡ None → IsUtf8 l → IsCharBoundary l p → at e l p ≡ Some r → Placed l p r) where
    placed_at : (e l : List ℕ) (p : ℕ) (r : Region) (h : Hit e l p r) → Placed l h.stopped.at r
    placed_at e l p r h =
        let q = h.stopped.at in
        let y = edged e l q r (edge l q) refl h.stopped.here in
        placed e l q r h.fine h.utf8 y.0 y.1

    same_begin : (l : List ℕ) (q : ℕ) (r : Region) (s : Span) → Placed l q r → group r 0 ≡ Some s → s.begin ≡ q
    same_begin l q r s pl h = let w = pl.whole in let e : s ≡ span q pl.end = cc in ap (λ (t : Span). t.begin) e

    pub earliest_lawful : Lawful (earliest refusal at)
    earliest_lawful = record {
      inside = λ e l p r h. let k = hit e l p r h in (k.utf8, k.from);
      proper = λ e l p r h.
          let k = hit e l p r h in
          let pl = placed_at e l p r k in
          record { whole = span k.stopped.at pl.end; present = pl.whole; after = k.stopped.low; within = pl.within };
      again = λ e l p q r s h g0 low high b.
          let k = hit e l p r h in
          let pl = placed_at e l p r k in
          let sb = same_begin l k.stopped.at r s pl g0 in
          let st = k.stopped in
          at_inside e l q k.fine k.utf8 b
          ∙ ap answer (stops (at_edges l (at e l)) (suc (length l) - q) q st.at r (omega arith) (omega (arith, st.high, b.0, k.from.0)) st.here (λ j c d. st.before j (omega arith) d));
      never = λ e l p q u b h low c.
          let k = nothing_case e l p u b h (case e l p) in
          at_inside e l q k.0 u c
          ∙ ap answer (nones (at_edges l (at e l)) (suc (length l) - q) q (λ j x y. none (at_edges l (at e l)) (suc (length l) - p) p k.1 j (omega arith) (omega (arith, b.0, c.0))));
      refuses = λ e l p k h m q. at_refused e m q k.at (refused_case e l p k h (case e l p));
    }
