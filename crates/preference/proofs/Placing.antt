-- The groups of a match lie in the line, at edges. Assumes nothing.
use Rattle.std.proofs.Common.{◌≡◌, ℕ, zero, suc, ◌≤◌, ◌⊎◌, List, [], ◌∷◌, get_or, set, Some, None, IsUtf8, Option, sym, refl, subst, inl, inr, ⊎_elim, arith}
use Rattle.std.specs.Str.{IsCharBoundary}
use Rattle.std.proofs.lemmas.Str.{IsCharBoundary-start}
use Rattle.matcher.specs.declared.answer.Span.{Span}
use Rattle.matcher.specs.declared.answer.Region.{Region}
use Rattle.matcher.specs.Regions.{group, span}
use Rattle.matcher.specs.Laws.{Within, Lawful}
use Rattle.scan.specs.Earliest.{Placed}
use Rattle.scan.proofs.Earliest.{earliest_lawful}
use Rattle.grammar.specs.Grammar.{Piece, Item, takes, start, end, never, opens, closes, bar}
use Rattle.grammar.specs.Reader.{refusal}
use Rattle.grammar.specs.Parse.{items}
use Rattle.ways.specs.Match.{Way, step, run}
use Rattle.ways.specs.Ways.{Row, Leads, Fits, Best}
use Rattle.ways.specs.Groups.{Laying, blank, put, begin_of, closing_on, lay, laid}
use Rattle.ways.specs.Meaning.{alternatives, end_of, region_of, at, meaning}
use Rattle.ways.proofs.Prefers.{step_on, preferred}
use Rattle.ways.proofs.Edges.{step_edge}
use Rattle.preference.proofs.Chosen.{chosen}
use Rattle.preference.proofs.Bracketing.{nones, whole_group}

-- ===== a way goes on from edge to edge
module _ (l : List ℕ) (u : IsUtf8 l) where
  row_edge : (x : Piece) (n p q : ℕ) → IsCharBoundary l p → Row (step l x) n p q → (p ≤ q) × IsCharBoundary l q
  row_edge x zero p q b r = (omega arith, subst (IsCharBoundary l) r b)
  row_edge x (suc n) p q b r =
      let a = step_on l x p r.0 r.1 in
      let k = row_edge x n r.0 q (step_edge l p u b x r.0 r.1) r.2 in (omega arith, k.1)

  leads_edge : (x : Item) (p q : ℕ) → IsCharBoundary l p → Leads l x p q → (p ≤ q) × IsCharBoundary l q
  leads_edge (takes x t) p q b h = row_edge x h.0 p q b h.2
  leads_edge start p q b h = (omega (arith, h.0), subst (IsCharBoundary l) h.0 b)
  leads_edge end p q b h = (omega (arith, h.0), subst (IsCharBoundary l) h.0 b)
  leads_edge (never d) p q b h = absurd h
  leads_edge opens p q b h = (omega arith, subst (IsCharBoundary l) h b)
  leads_edge closes p q b h = (omega arith, subst (IsCharBoundary l) h b)
  leads_edge bar p q b h = absurd h

  pub end_edge : (is : List Item) (p : ℕ) (w : Way) → IsCharBoundary l p → Fits l is p w → (p ≤ end_of p w) × IsCharBoundary l (end_of p w)
  end_edge [] p [] b f = (omega arith, b)
  end_edge [] p (q ∷ w) b f = absurd f
  end_edge (x ∷ is) p [] b f = absurd f
  end_edge (x ∷ is) p (q ∷ w) b f =
      let a = leads_edge x p q b f.0 in
      let k = end_edge is q w a.1 f.1 in (omega arith, k.1)

-- ===== what a group may be after one was put
pub put_cases : (xs : List (Option Span)) (k j : ℕ) (v s : Span) → get_or (set xs k (Some v)) j None ≡ Some s → (s ≡ v) ⊎ (get_or xs j None ≡ Some s)
put_cases [] k j v s h = inr h
put_cases (x ∷ xs) zero zero v s h = inl (cc)
put_cases (x ∷ xs) zero (suc j) v s h = inr h
put_cases (x ∷ xs) (suc k) zero v s h = inr h
put_cases (x ∷ xs) (suc k) (suc j) v s h = put_cases xs k j v s h

-- each group lies in the line at edges, and ends no later than p
pub record Laid (l : List ℕ) (p : ℕ) (r : Region) : Type 0 where
  pub within : (k : ℕ) (s : Span) → group r k ≡ Some s → Within l s × (s.end ≤ p)

module _ (l : List ℕ) (u : IsUtf8 l) where
  further : (p q : ℕ) (r : Region) → p ≤ q → Laid l p r → Laid l q r
  further p q r le h = record { within = λ k s e. let a = h.within k s e in (a.0, omega (arith, a.1)) }

  put_laid : (q k b : ℕ) (r : Region) → Laid l q r → b ≤ q → IsCharBoundary l b → IsCharBoundary l q → Laid l q (put k b q r)
  put_laid q k b r h le eb eq = record {
    within = λ j s e. ⊎_elim
        (λ same. subst (λ (t : Span). Within l t × (t.end ≤ q)) (sym same) (record { ordered = le; begins = eb; ends = eq }, omega arith))
        (λ was. h.within j s was)
        (put_cases r.groups k j (span b q) s e);
  }

  begin_edge : (q : ℕ) (o : Option Span) → ((s : Span) → o ≡ Some s → Within l s × (s.end ≤ q)) → (begin_of o ≤ q) × IsCharBoundary l (begin_of o)
  begin_edge q None h = (omega arith, IsCharBoundary-start l u)
  begin_edge q (Some s) h = let a = h s refl in (omega (arith, a.0.ordered, a.1), a.0.begins)

  closing_laid : (q n : ℕ) (ks : List ℕ) (r : Region) → IsCharBoundary l q → Laid l q r → Laid l q (closing_on q n ks r).region
  closing_laid q n [] r b h = h
  closing_laid q n (k ∷ ks) r b h = let a = begin_edge q (group r k) (h.within k) in put_laid q k (begin_of (group r k)) r h a.0 a.1 b

  lay_laid : (x : Item) (q : ℕ) (y : Laying) → IsCharBoundary l q → Laid l q y.region → Laid l q (lay x q y).region
  lay_laid (takes x t) q y b h = h
  lay_laid start q y b h = h
  lay_laid end q y b h = h
  lay_laid (never d) q y b h = h
  lay_laid opens q y b h = put_laid q (suc y.opened) q y.region h (omega arith) b b
  lay_laid closes q y b h = closing_laid q y.opened y.inner y.region b h
  lay_laid bar q y b h = h

  pub all_laid : (is : List Item) (p : ℕ) (w : Way) (y : Laying) → IsCharBoundary l p → Fits l is p w → Laid l p y.region → Laid l (end_of p w) (laid y is w).region
  all_laid [] p [] y b f h = h
  all_laid [] p (q ∷ w) y b f h = absurd f
  all_laid (x ∷ is) p [] y b f h = absurd f
  all_laid (x ∷ is) p (q ∷ w) y b f h =
      let a = leads_edge l u x p q b f.0 in
      all_laid is q w (lay x q y) a.1 f.1 (lay_laid x q y a.1 (further p q y.region a.0 h))

  blank_laid : (p : ℕ) → Laid l p blank
  blank_laid p = record { within = λ k s h. let n = nones 16 k in cc }

  pub region_placed : (n : ℕ) (a : List Item) (p : ℕ) (w : Way) → IsCharBoundary l p → Fits l a p w → Placed l p (region_of n a p w)
  region_placed n a p w b f =
      let inside = all_laid a p w (record { opened = n; inner = []; region = blank }) b f (blank_laid p) in
      let ends = end_edge l u a p w b f in
      let whole = put_laid (end_of p w) 0 p _ inside ends.0 b ends.1 in
      record {
        end = end_of p w;
        whole = whole_group n a p w;
        within = λ k s h. (whole.within k s h).0;
      }

-- a way that was found fits
pub ran_fits : (l : List ℕ) (a : List Item) (p : ℕ) (w : Way) → run l a p ≡ Some w → Best (Fits l a p) (Some w)
ran_fits l a p w h = subst (Best (Fits l a p)) h (preferred l a p)

pub placed : (e l : List ℕ) (p : ℕ) (r : Region) → refusal e ≡ None → IsUtf8 l → IsCharBoundary l p → at e l p ≡ Some r → Placed l p r
placed e l p r fine u b h =
    let c = chosen l p 0 (alternatives (items e)) r h in
    subst (Placed l p) (sym c.is) (region_placed l u _ c.which p c.way b (ran_fits l c.which p c.way c.ran).0)

pub expression_lawful : Lawful meaning
expression_lawful = earliest_lawful refusal at placed
