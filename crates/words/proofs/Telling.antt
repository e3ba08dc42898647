-- What an answer of the word matcher tells, and that it obeys the laws. Assumes nothing.
use Rattle.std.specs.Prelude.{◌≡◌, ℕ, zero, suc, ◌+◌, ◌≤◌, Bool, true, false, cond, ◌&&◌, List, [], ◌∷◌, ◌++◌, map, length, drop, replicate, Some, None, Ok, Err, IsUtf8, Option, slice_index_or, refl}
use Rattle.std.proofs.Common.{sym, ap, subst, ◌∙◌, arith}
use Rattle.std.specs.Str.{IsCharBoundary}
use Rattle.std.specs.List.{AllByRecursion}
use Rattle.std.proofs.lemmas.Bool.{and_parts}
use Rattle.matcher.specs.declared.answer.Span.{Span}
use Rattle.matcher.specs.declared.answer.Region.{Region}
use Rattle.matcher.specs.Answers.{Answer}
use Rattle.matcher.specs.Regions.{group, span, spanning}
use Rattle.matcher.specs.Laws.{Within, Lawful}
use Rattle.scan.specs.Earliest.{Placed}
use Rattle.matcher.specs.Refusals.{Longest, Judged}
use Rattle.scan.proofs.Earliest.{FoundAt, when_found, when_refused, when_nothing, nothing_at, earliest_lawful}
use Rattle.words.specs.Grammar.{Word, Expression, signs, words, GoodSigns, GoodWords, Spells, Legal}
use Rattle.words.specs.Reader.{refusal}
use Rattle.words.specs.Meaning.{stands, free_before, free_after, counts, first_of, word_at, meaning}
use Rattle.words.specs.Found.{NoneCounts, First, Told}
use Rattle.words.proofs.Rests.{judgement}
use Rattle.words.proofs.Spelling.{spelled_word, read_written}
use Rattle.words.proofs.Standing.{counts_tells, uncounted, ends_edge}

legal : (e : List ℕ) → refusal e ≡ None → Legal e
legal e h = subst (Judged Legal e) h (judgement e)

refused : (e : List ℕ) (n : ℕ) → refusal e ≡ Some n → Longest Legal e n
refused e n h = subst (Judged Legal e) h (judgement e)

-- the first of the words that counts
record Split (ws : List Word) (l : List ℕ) (b : ℕ) (r : Region) : Type 0 where
  pub earlier : List Word
  pub which : Word
  pub later : List Word
  pub among : ws ≡ earlier ++ which ∷ later
  pub is : r ≡ spanning b (b + length (spelled_word which))
  pub here : counts (spelled_word which) l b ≡ true
  pub none : AllByRecursion (λ (w : Word). counts (spelled_word w) l b ≡ false) earlier

module _ (l : List ℕ) (b : ℕ) where
  split_here : (w : Word) (ws : List Word) (r : Region) → (first_of (map spelled_word ws) l b ≡ Some r → Split ws l b r) → (t : Bool) → counts (spelled_word w) l b ≡ t
      → cond t (Some (spanning b (b + length (spelled_word w)))) (first_of (map spelled_word ws) l b) ≡ Some r → Split (w ∷ ws) l b r
  split_here w ws r more true e h = record { earlier = []; which = w; later = ws; among = refl; is = cc; here = e; none = tt }
  split_here w ws r more false e h =
      let s = more h in
      record { earlier = w ∷ s.earlier; which = s.which; later = s.later; among = ap (λ v. w ∷ v) s.among; is = s.is; here = s.here; none = (e, s.none) }

  split : (ws : List Word) (r : Region) → first_of (map spelled_word ws) l b ≡ Some r → Split ws l b r
  split [] r h = let z : ◌≡◌ {A = ℕ} 0 1 = cc in absurd (omega arith)
  split (w ∷ ws) r h = split_here w ws r (split ws r) (counts (spelled_word w) l b) refl h

  none_here : (w : Word) (ws : List Word) → (first_of (map spelled_word ws) l b ≡ None → AllByRecursion (λ (w : Word). counts (spelled_word w) l b ≡ false) ws) → (t : Bool) → counts (spelled_word w) l b ≡ t
      → cond t (Some (spanning b (b + length (spelled_word w)))) (first_of (map spelled_word ws) l b) ≡ None → AllByRecursion (λ (w : Word). counts (spelled_word w) l b ≡ false) (w ∷ ws)
  none_here w ws more true e h = let z : ◌≡◌ {A = ℕ} 0 1 = cc in absurd (omega arith)
  none_here w ws more false e h = (e, more h)

  none_count : (ws : List Word) → first_of (map spelled_word ws) l b ≡ None → AllByRecursion (λ (w : Word). counts (spelled_word w) l b ≡ false) ws
  none_count [] h = tt
  none_count (w ∷ ws) h = none_here w ws (none_count ws) (counts (spelled_word w) l b) refl h

  all_uncounted : (ws : List Word) → AllByRecursion (λ (w : Word). counts (spelled_word w) l b ≡ false) ws → NoneCounts ws l b
  all_uncounted [] h = tt
  all_uncounted (w ∷ ws) h = (uncounted w l b h.0, all_uncounted ws h.1)

good_split : (earlier : List Word) (which : Word) (later : List Word) → GoodWords (earlier ++ which ∷ later) → GoodSigns (signs which)
good_split [] which later g = g.0
good_split (w ∷ ws) which later g = good_split ws which later g.1

at_words : (e l : List ℕ) (b : ℕ) (x : Expression) → Spells x e → word_at e l b ≡ first_of (map spelled_word (words x)) l b
at_words e l b x s = ap (λ ws. first_of ws l b) (read_written x e s)

no_words : (e l : List ℕ) (b : ℕ) (x : Expression) → Spells x e → word_at e l b ≡ None → NoneCounts (words x) l b
no_words e l b x s h = all_uncounted l b (words x) (none_count l b (words x) (sym (at_words e l b x s) ∙ h))

-- the one group of a match
nones : (n k : ℕ) → slice_index_or {A = Option Span} (replicate n None) k None ≡ None
nones zero k = refl
nones (suc n) zero = refl
nones (suc n) (suc k) = nones n k

only_whole : (b q k : ℕ) (s : Span) → group (spanning b q) k ≡ Some s → s ≡ span b q
only_whole b q zero s h = cc
only_whole b q (suc k) s h = let n = nones 15 k in let z : ◌≡◌ {A = ℕ} 0 1 = cc in absurd (omega arith)

spanning_placed : (l : List ℕ) (b q : ℕ) → IsCharBoundary l b → IsCharBoundary l q → b ≤ q → Placed l b (spanning b q)
spanning_placed l b q eb eq le = record {
  end = q;
  whole = refl;
  within = λ k s h. subst (Within l) (sym (only_whole b q k s h)) (record { ordered = le; begins = eb; ends = eq });
}

pub placed : (e l : List ℕ) (b : ℕ) (r : Region) → refusal e ≡ None → IsUtf8 l → IsCharBoundary l b → word_at e l b ≡ Some r → Placed l b r
placed e l b r fine u edge h =
    let lx = legal e fine in
    let x = lx.0 in
    let s = split l b (words x) r (sym (at_words e l b x lx.1) ∙ h) in
    let w = s.which in
    let good = good_split s.earlier w s.later (subst GoodWords s.among lx.1.good) in
    let sides = and_parts (free_before l b) (stands (spelled_word w) (drop b l) && free_after l (b + length (spelled_word w))) s.here in
    let here = and_parts (stands (spelled_word w) (drop b l)) (free_after l (b + length (spelled_word w))) sides.1 in
    subst (Placed l b) (sym s.is) (spanning_placed l b (b + length (spelled_word w)) edge (ends_edge l u (signs w) good b edge here.0) (omega arith))

pub word_lawful : Lawful meaning
word_lawful = earliest_lawful refusal word_at placed

first : (e l : List ℕ) (p : ℕ) (r : Region) → FoundAt refusal word_at e l p r → (x : Expression) → Spells x e → First x l p r
first e l p r f x sp =
    let b = f.begin in
    let s = split l b (words x) r (sym (at_words e l b x sp) ∙ f.here) in
    record {
      begin = b;
      end = b + length (spelled_word s.which);
      earlier = s.earlier;
      which = s.which;
      later = s.later;
      is = s.is;
      edge = f.edge;
      after = f.after;
      among = s.among;
      counts = counts_tells s.which l b f.edge.0 s.here;
      no_sooner = λ q low high edge. no_words e l q x sp (f.before q low high edge);
      no_other = all_uncounted l b s.earlier s.none;
    }

pub told : (e l : List ℕ) (p : ℕ) (a : Answer) → a ≡ meaning e l p → Told e l p a
told e l p (Err x) h = refused e x.at (when_refused refusal word_at e l p x (sym h))
told e l p (Ok (Some r)) h = let f = when_found refusal word_at e l p r (sym h) in (legal e f.fine, first e l p r f)
told e l p (Ok None) h = (
  legal e (when_nothing refusal word_at e l p (sym h)),
  λ u edge x sp q low eq. no_words e l q x sp (nothing_at refusal word_at e l p (sym h) u edge q low eq),
)

pub told_meaning : (e l : List ℕ) (p : ℕ) → Told e l p (meaning e l p)
told_meaning e l p = told e l p (meaning e l p) refl
