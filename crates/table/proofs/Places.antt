-- Where the items of an expression stand. Assumes nothing.
use Rattle.std.proofs.Common.{◌≡◌, ℕ, ◌+◌, ◌-◌, ◌<◌, ◌≤◌, Bool, true, false, List, [], ◌∷◌, ◌++◌, length, get_or, drop, Some, None, append_assoc, sym, refl, ap, ◌∙◌, subst, ⊎_elim, arith}
use lib.Utf8.{encode}
use lib.Seq.{drop_at}
use Rattle.std.specs.Str.{IsCharBoundary}
use Rattle.std.proofs.lemmas.List.{length-append, length-drop, get_or_append_left, get_or_push, drop-drop}
use Rattle.std.proofs.lemmas.Str.{IsCharBoundary-from_drop}
use Rattle.std.proofs.lemmas.Bool.{cases_lt}
use Rattle.grammar.specs.declared.items.Item.{Item}
use Rattle.grammar.specs.declared.items.Items.{Items}
use Rattle.grammar.specs.Grammar as g
use Rattle.grammar.specs.Items.{Written, Reads}
use Rattle.grammar.specs.Parse.{items}
use Rattle.grammar.proofs.Text.{legal_text}
use Rattle.ways.proofs.Reading.{first, none_written}
use Rattle.table.specs.Places.{WrittenAt, FirstIs, Stand}

-- ===== what is written behind an item ends the bytes of both
-- the bytes end with the rest
abbrev pub Ends : List ℕ → List ℕ → Type 0
Ends rest bytes = (before : List ℕ) × (before ++ rest ≡ bytes)

ends_all : (bytes : List ℕ) → Ends bytes bytes
ends_all bytes = ([], refl)

ends_on : (rest mid bytes : List ℕ) → Ends rest mid → Ends mid bytes → Ends rest bytes
ends_on rest mid bytes h k = (k.0 ++ h.0, append_assoc k.0 h.0 rest ∙ ap (λ bs. k.0 ++ bs) h.1 ∙ k.1)

module _ (rest : List ℕ) where
  -- a byte more before
  more : (c : ℕ) (bs : List ℕ) → Ends rest bs → Ends rest (c ∷ bs)
  more c bs h = (c ∷ h.0, ap (λ cs. c ∷ cs) h.1)

  sign_ends : (a : g.Sign) (bs : List ℕ) → Ends rest bs → Ends rest (g.sign a bs)
  sign_ends (g.plain c) bs h = more c bs h
  sign_ends (g.escaped c) bs h = more 92 (c ∷ bs) (more c bs h)

  member_ends : (m : g.Member) (bs : List ℕ) → Ends rest bs → Ends rest (g.member m bs)
  member_ends (g.one a) bs h = sign_ends a bs h
  member_ends (g.range a z) bs h = sign_ends a (45 ∷ g.sign z bs) (more 45 (g.sign z bs) (sign_ends z bs h))
  member_ends (g.every s) bs h = more 92 (g.letter s ∷ bs) (more (g.letter s) bs h)

  members_ends : (ms : List g.Member) (bs : List ℕ) → Ends rest bs → Ends rest (g.members ms bs)
  members_ends [] bs h = h
  members_ends (m ∷ ms) bs h = member_ends m (g.members ms bs) (members_ends ms bs h)

  caret_ends : (t : Bool) (bs : List ℕ) → Ends rest bs → Ends rest (g.caret t bs)
  caret_ends true bs h = more 94 bs h
  caret_ends false bs h = h

  times_ends : (t : g.Times) (bs : List ℕ) → Ends rest bs → Ends rest (g.times t bs)
  times_ends g.once bs h = h
  times_ends g.maybe bs h = more 63 bs h
  times_ends g.many bs h = more 42 bs h
  times_ends g.some bs h = more 43 bs h

  piece_ends : (p : g.Piece) (bs : List ℕ) → Ends rest bs → Ends rest (g.piece p bs)
  piece_ends (g.char c) bs h = more c bs h
  piece_ends (g.wide c) bs h = ends_on rest bs (encode c ++ bs) h (encode c, refl)
  piece_ends (g.marked c) bs h = more 92 (c ∷ bs) (more c bs h)
  piece_ends g.any bs h = more 46 bs h
  piece_ends (g.set s) bs h = more 92 (g.letter s ∷ bs) (more (g.letter s) bs h)
  piece_ends (g.class not m ms) bs h =
      let cs = g.members ms (93 ∷ bs) in
      more 91 (g.caret not (g.member m cs)) (caret_ends not (g.member m cs) (member_ends m cs (members_ends ms (93 ∷ bs) (more 93 bs h))))

  item_ends : (y : g.Item) (bs : List ℕ) → Ends rest bs → Ends rest (g.item y bs)
  item_ends (g.takes p t) bs h = piece_ends p (g.times t bs) (times_ends t bs h)
  item_ends g.start bs h = more 94 bs h
  item_ends g.end bs h = more 36 bs h
  item_ends (g.never d) bs h = more 92 (d ∷ bs) (more d bs h)
  item_ends g.opens bs h = more 40 bs h
  item_ends g.closes bs h = more 41 bs h
  item_ends g.bar bs h = more 124 bs h

behind_ends : (rest bytes : List ℕ) (y : g.Item) (is : List g.Item) → Written bytes (y ∷ is) → Written rest is → Ends rest bytes
behind_ends rest bytes y is w v =
    subst (Ends rest) w.written (item_ends rest y (g.written is) (subst (Ends rest) (sym v.written) (ends_all rest)))

-- ===== the place of the rest
rest_there : (rest bytes : List ℕ) → Ends rest bytes → drop (length bytes - length rest) bytes ≡ rest
rest_there rest bytes h =
    let long : length bytes - length rest ≡ length h.0 = omega (arith, ap length h.1, length-append h.0 rest) in
    ap (λ (n : ℕ). drop n bytes) long ∙ ap (drop (length h.0)) (sym h.1) ∙ drop_at h.0 rest (length h.0) refl

-- ===== those that were read stand at the places
pub record Standing (e places rest : List ℕ) : Type 0 where
  pub few : length places ≤ length (items e)
  pub each : (k : ℕ) → k < length places → WrittenAt e (get_or places k 0) (drop k (items e))
  pub ends : Ends rest e
  pub behind : Written rest (drop (length places) (items e))

module _ (e : List ℕ) where
  pub standing_none : Written e (items e) → Standing e [] e
  standing_none w = record { few = omega arith; each = λ k lt. absurd (omega arith); ends = ends_all e; behind = w }

  pub standing_more : (places rest : List ℕ) (place : ℕ) (item : Item) (others : Items) → place ≡ length e - length rest
      → Reads rest (Some (item, others)) → Standing e places rest → Standing e (places ++ place ∷ []) others.rest.now
  standing_more places rest place item others at reads s =
      let f = first rest item others reads (drop (length places) (items e)) s.behind in
      let there : drop place e ≡ rest = ap (λ (n : ℕ). drop n e) at ∙ rest_there rest e s.ends in
      let here : WrittenAt e place (drop (length places) (items e)) = record { within = omega arith; written = subst (λ bs. Written bs (drop (length places) (items e))) (sym there) s.behind } in
      let long : length (places ++ place ∷ []) ≡ length places + 1 = length-append places (place ∷ []) in
      let some : length (drop (length places) (items e)) ≡ length (f.head ∷ f.tail) = ap length f.split in
      let tail : f.tail ≡ drop (length (places ++ place ∷ [])) (items e) =
      ap (drop 1) (sym f.split) ∙ drop-drop 1 (length places) (items e) ∙ ap (λ (n : ℕ). drop n (items e)) (sym long) in
      record {
        few = omega (arith, length-drop (length places) (items e));
        each = λ k lt. ⊎_elim
            (λ low. subst (λ (i : ℕ). WrittenAt e i (drop k (items e))) (sym (get_or_append_left places (place ∷ []) 0 k low)) (s.each k low))
            (λ high. let same : length places ≡ k = omega arith in
            subst (λ (i : ℕ). WrittenAt e i (drop k (items e))) (sym (get_or_push places place 0 k same)) (subst (λ (n : ℕ). WrittenAt e place (drop n (items e))) same here))
            (cases_lt k (length places));
        ends = ends_on others.rest.now rest e (behind_ends others.rest.now rest f.head f.tail (subst (Written rest) f.split s.behind) f.behind) s.ends;
        behind = subst (Written others.rest.now) tail f.behind;
      }

  pub standing_all : (places rest : List ℕ) → Reads rest None → Standing e places rest → Stand e places
  standing_all places rest reads s =
      let none = ap length (none_written rest reads (drop (length places) (items e)) s.behind) in
      record { all = omega (arith, length-drop (length places) (items e), s.few); each = s.each }

-- ===== an item can be read there
pub readable : (e : List ℕ) (place : ℕ) (is : List g.Item) → WrittenAt e place is → IsCharBoundary e place
readable e place is w = IsCharBoundary-from_drop e place w.within (legal_text w.written.opened w.written.depth (drop place e) (is, w.written.good, w.written.written))

-- what is read of the rest is the first of the items that are written there
pub none_read : (is : List g.Item) (rest : List ℕ) → Reads rest None → Written rest is → FirstIs is None
none_read is rest reads w = subst (λ (js : List g.Item). FirstIs js None) (sym (none_written rest reads is w)) tt

pub first_read : (is : List g.Item) (item : Item) (others : Items) (rest : List ℕ) → Reads rest (Some (item, others)) → Written rest is → FirstIs is (Some item)
first_read is item others rest reads w =
    let f = first rest item others reads is w in
    subst (λ (js : List g.Item). FirstIs js (Some item)) (sym f.split) f.here
