-- From what may follow before a byte on to what may follow after it. Assumes nothing.
use Rattle.std.proofs.Common.{◌≡◌, ℕ, zero, suc, ◌<◌, ◌≤◌, Bool, true, false, cond, ◌&&◌, eqb, ltb, leb, List, [], ◌∷◌, ◌++◌, Some, None, Option, sym, refl, ap, ◌∙◌, subst, inl, inr, arith}
use lib.Utf8.{encode}
use Rattle.std.proofs.lemmas.Bool.{cond-true, cond-false, eq-eqb, ne_eqb, lt-ltb, le-leb, and_from}
use Rattle.chars.specs.declared.leads.Owed.{Owed}
use Rattle.chars.specs.Sets.{between}
use Rattle.chars.specs.Marks.{unmarked}
use Rattle.chars.specs.Leads.{lead_of}
use Rattle.chars.proofs.Wide.{Owes, Following, Begun, begun}
use Rattle.matcher.proofs.Longest.{Next}
use Rattle.grammar.specs.declared.bytes.Kind.{Kind}
use Rattle.grammar.specs.declared.bytes.Kind.TheVariants as k
use Rattle.grammar.specs.declared.bytes.Inside.{Inside}
use Rattle.grammar.specs.declared.bytes.Inside.TheVariants as i
use Rattle.grammar.specs.declared.reader.Mode.{Mode}
use Rattle.grammar.specs.declared.reader.Mode.TheVariants.{Plain, Taken, Escape, Owing, ClassOpen, ClassFirst, Class, ClassLast, ClassEscape, Range, RangeEscape}
use Rattle.grammar.specs.declared.reader.State.{State}
use Rattle.grammar.specs.Bytes.{led_by, kind_of, inside_of, escaped_of}
use Rattle.grammar.specs.Grammar.{plain, escaped, Member, one, range, every, Piece, char, wide, marked, any, set, class, Times, once, maybe, many, some, Item, takes, start, end, never, opens, closes, bar}
use Rattle.grammar.specs.Grammar.{member, members, caret, piece, times, written, GoodMember, GoodMembers, GoodPiece, Good}
use Rattle.grammar.specs.Reader.{outside, behind_piece, first, within, last, upper, escape, class_escape, range_escape, owed, moved, next, ends, done}
use Rattle.grammar.proofs.Rests.{After, Members, UpperEscaped, Upper, Last, EscapedIn, First, Opened, Escaping, Rest, Rests, FromRest, Sound}
use Rattle.grammar.proofs.Told.{mark_low, unmarked_low, is_bare, in_bare, is_mark, is_digit, is_set, is_lead}

so : (t : Bool) (o : Option State) (bs : List ℕ) → t ≡ true → FromRest o bs → FromRest (cond t o None) bs
so t o bs e h = subst (λ p. FromRest p bs) (sym (cond-true t o None e)) h

module _ (now : State) where
  abbrev pub NextAt : Mode → List ℕ → Type 0
  NextAt m [] = (ends m && eqb now.depth 0) ≡ true
  NextAt m (b ∷ bs) = FromRest (moved now m b) bs

  -- where the kind of the byte is known
  by_kind : (b : ℕ) (bs : List ℕ) (q : Option Kind) → kind_of b ≡ q → FromRest (outside now q) bs → FromRest (outside now (kind_of b)) bs
  by_kind b bs q e h = subst (λ p. FromRest (outside now p) bs) (sym e) h

  head_first : (m : Member) (cs : List ℕ) → GoodMember m → Members now cs → First now (member m cs)
  head_first (one (plain c)) cs a h = inl (a, inl h)
  head_first (one (escaped c)) cs a h = inr (refl, inl (a, inl h))
  head_first (range (plain a) (plain z)) cs h r = inl (h.0, inr (refl, inl (h.1, h.2, r)))
  head_first (range (plain a) (escaped z)) cs h r = inl (h.0, inr (refl, inr (refl, (h.1, h.2, r))))
  head_first (range (escaped a) (plain z)) cs h r = inr (refl, inl (h.0, inr (refl, inl (h.1, h.2, r))))
  head_first (range (escaped a) (escaped z)) cs h r = inr (refl, inl (h.0, inr (refl, inr (refl, (h.1, h.2, r)))))
  head_first (every s) cs a h = inr (refl, inr (s, refl, h))

  lead_on : (o : Option Owed) (bs : List ℕ) → Following (After now) o bs → FromRest (outside now (led_by o)) bs
  lead_on None bs h = absurd h
  lead_on (Some o) bs h = h

  wide_on : (bs : List ℕ) → Begun (After now) bs → NextAt Plain bs
  wide_on [] h = absurd h
  wide_on (b ∷ bs) h = by_kind b bs (led_by (lead_of b)) (is_lead b h.0) (lead_on (lead_of b) bs h.1)

  opened : (t : Bool) (cs : List ℕ) → First now cs → Opened now (caret t cs)
  opened true cs h = inr (cs, h, refl)
  opened false cs h = inl h

  piece_on : (p : Piece) (u : Times) (is : List Item) → GoodPiece p → Good now.groups now.depth is → NextAt Plain (piece p (times u (written is)))
  piece_on (char c) u is a h = by_kind c (times u (written is)) (Some k.Bare) (is_bare c a) (u, is, h, refl)
  piece_on (wide c) u is a h = wide_on (encode c ++ times u (written is)) (begun (After now) c a.0 a.1 (times u (written is)) (u, is, h, refl))
  piece_on (marked c) u is a h = inl (a, (u, is, h, refl))
  piece_on any u is a h = (u, is, h, refl)
  piece_on (set s) u is a h = inr (inr (s, refl, (u, is, h, refl)))
  piece_on (class not m ms) u is a h =
      opened not (member m (members ms (93 ∷ times u (written is)))) (head_first m (members ms (93 ∷ times u (written is))) a.0 (ms, u, is, a.1, h, refl))

  -- the depth does not pass the number of groups
  items_on : now.depth ≤ now.groups → (is : List Item) → Good now.groups now.depth is → NextAt Plain (written is)
  items_on le [] h = eq-eqb now.depth 0 h
  items_on le (takes p u ∷ is) h = piece_on p u is h.0 h.1
  items_on le (start ∷ is) h = (is, h, refl)
  items_on le (end ∷ is) h = (is, h, refl)
  items_on le (never n ∷ is) h = inr (inl (h.0, (is, h.1, refl)))
  items_on le (opens ∷ is) h =
      so (ltb now.groups 15 && ltb now.depth 15) _ (written is) (and_from (ltb now.groups 15) (ltb now.depth 15) (lt-ltb now.groups 15 h.0) (lt-ltb now.depth 15 (omega (arith, h.0)))) (is, h.1, refl)
  items_on le (closes ∷ is) h = so (ltb 0 now.depth) _ (written is) (lt-ltb 0 now.depth h.0) (is, h.1, refl)
  items_on le (bar ∷ is) h = so (eqb now.depth 0) _ (written is) (eq-eqb now.depth 0 h.0) (is, h.1, refl)

  -- what may stand between items may stand behind a piece
  later : (q : Option Kind) (bs : List ℕ) → FromRest (outside now q) bs → FromRest (behind_piece now q) bs
  later (Some k.Repeat) bs h = absurd h
  later other bs h = h

  later_on : (bs : List ℕ) → NextAt Plain bs → NextAt Taken bs
  later_on [] h = h
  later_on (b ∷ bs) h = later (kind_of b) bs h

  after_on : now.depth ≤ now.groups → (u : Times) (is : List Item) → Good now.groups now.depth is → NextAt Taken (times u (written is))
  after_on le once is h = later_on (written is) (items_on le is h)
  after_on le maybe is h = (is, h, refl)
  after_on le many is h = (is, h, refl)
  after_on le some is h = (is, h, refl)

  first_on : (bs : List ℕ) → First now bs → NextAt ClassFirst bs
  first_on [] h = absurd h
  first_on (b ∷ bs) (inl h) = subst (λ q. FromRest (first now b q) bs) (sym (in_bare b h.0)) h.1
  first_on (b ∷ bs) (inr h) = subst (λ (y : ℕ). FromRest (first now y (inside_of y)) bs) (sym h.0) h.1

  -- what may begin a class may stand later in it
  wider : (q : Option Inside) (b : ℕ) (bs : List ℕ) → FromRest (first now b q) bs → FromRest (within now b q) bs
  wider (Some i.Bare) b bs h = h
  wider (Some i.Backslash) b bs h = h
  wider (Some i.Shut) b bs h = absurd h
  wider (Some i.Dash) b bs h = absurd h
  wider None b bs h = absurd h

  widest : (lo : ℕ) (q : Option Inside) (b : ℕ) (bs : List ℕ) → FromRest (within now b q) bs → FromRest (last now lo b q) bs
  widest lo (Some i.Bare) b bs h = h
  widest lo (Some i.Backslash) b bs h = h
  widest lo (Some i.Shut) b bs h = h
  widest lo (Some i.Dash) b bs h = absurd h
  widest lo None b bs h = absurd h

  in_on : (bs : List ℕ) → NextAt ClassFirst bs → NextAt Class bs
  in_on [] h = h
  in_on (b ∷ bs) h = wider (inside_of b) b bs h

  last_in_on : (lo : ℕ) (bs : List ℕ) → NextAt Class bs → NextAt (ClassLast lo) bs
  last_in_on lo [] h = h
  last_in_on lo (b ∷ bs) h = widest lo (inside_of b) b bs h

  members_on : (ms : List Member) (u : Times) (is : List Item) → GoodMembers ms → Good now.groups now.depth is → NextAt Class (members ms (93 ∷ times u (written is)))
  members_on [] u is a h = (u, is, h, refl)
  members_on (m ∷ ms) u is a h =
      let bs = members ms (93 ∷ times u (written is)) in
      in_on (member m bs) (first_on (member m bs) (head_first m bs a.0 (ms, u, is, a.1, h, refl)))

  any_members_on : (bs : List ℕ) → Members now bs → NextAt Class bs
  any_members_on bs h = subst (NextAt Class) h.5 (members_on h.0 h.1 h.2 h.3 h.4)

  upper_escaped_low : (lo : ℕ) (bs : List ℕ) → UpperEscaped now lo bs → lo < 126
  upper_escaped_low lo [] h = absurd h
  upper_escaped_low lo (b ∷ bs) h = omega (arith, mark_low b h.0, h.1)

  upper_low : (lo : ℕ) (bs : List ℕ) → Upper now lo bs → lo < 127
  upper_low lo [] h = absurd h
  upper_low lo (b ∷ bs) (inl h) = omega (arith, unmarked_low b h.0, h.1)
  upper_low lo (b ∷ bs) (inr h) = omega (arith, upper_escaped_low lo bs h.1)

  upper_on : (lo : ℕ) (bs : List ℕ) → Upper now lo bs → NextAt (Range lo) bs
  upper_on lo [] h = absurd h
  upper_on lo (b ∷ bs) (inl h) = subst (λ q. FromRest (upper now lo b q) bs) (sym (in_bare b h.0)) (so (ltb lo b) _ bs (lt-ltb lo b h.1) h.2)
  upper_on lo (b ∷ bs) (inr h) = subst (λ (y : ℕ). FromRest (upper now lo y (inside_of y)) bs) (sym h.0) (so (ltb lo 126) _ bs (lt-ltb lo 126 (upper_escaped_low lo bs h.1)) h.1)

  last_on : (lo : ℕ) (bs : List ℕ) → Last now lo bs → NextAt (ClassLast lo) bs
  last_on lo bs (inl h) = last_in_on lo bs (any_members_on bs h)
  last_on lo [] (inr h) = absurd h
  last_on lo (b ∷ bs) (inr h) = subst (λ (y : ℕ). FromRest (last now lo y (inside_of y)) bs) (sym h.0) (so (ltb lo 127) _ bs (lt-ltb lo 127 (upper_low lo bs h.1)) h.1)

  escape_on : (bs : List ℕ) → Escaping now bs → NextAt Escape bs
  escape_on [] h = absurd h
  escape_on (b ∷ bs) (inl h) = subst (λ q. FromRest (escape now q) bs) (sym (is_mark b h.0)) h.1
  escape_on (b ∷ bs) (inr (inl h)) = subst (λ q. FromRest (escape now q) bs) (sym (is_digit b h.0)) h.1
  escape_on (b ∷ bs) (inr (inr h)) = subst (λ q. FromRest (escape now q) bs) (sym (is_set h.0) ∙ ap escaped_of h.1) h.2

  escaped_in_on : (bs : List ℕ) → EscapedIn now bs → NextAt ClassEscape bs
  escaped_in_on [] h = absurd h
  escaped_in_on (b ∷ bs) (inl h) = subst (λ q. FromRest (class_escape now b q) bs) (sym (is_mark b h.0)) h.1
  escaped_in_on (b ∷ bs) (inr h) = subst (λ q. FromRest (class_escape now b q) bs) (sym (is_set h.0) ∙ ap escaped_of h.1) h.2

  range_on : (lo : ℕ) (bs : List ℕ) → UpperEscaped now lo bs → NextAt (RangeEscape lo) bs
  range_on lo [] h = absurd h
  range_on lo (b ∷ bs) h = subst (λ q. FromRest (range_escape now lo b q) bs) (sym (is_mark b h.0)) (so (ltb lo b) _ bs (lt-ltb lo b h.1) h.2)

  owed_none : (n lo hi : ℕ) → Owes n lo hi (After now) [] → ⊥
  owed_none zero lo hi h = h
  owed_none (suc n) lo hi h = h

  owed_part : (n lo hi b : ℕ) (bs : List ℕ) → Owes n lo hi (After now) (b ∷ bs) → (lo ≤ b) × (b ≤ hi) × Rest now (owed n) bs
  owed_part zero lo hi b bs h = h
  owed_part (suc n) lo hi b bs h = h

  owed_on : (o : Owed) (bs : List ℕ) → Owes o.more o.low o.high (After now) bs → NextAt (Owing o) bs
  owed_on o [] h = absurd (owed_none o.more o.low o.high h)
  owed_on o (b ∷ bs) h =
      let r = owed_part o.more o.low o.high b bs h in
      so (between o.low o.high b) _ bs (and_from (leb o.low b) (leb b o.high) (le-leb _ _ r.0) (le-leb _ _ r.1)) r.2

  -- a caret is none of the characters that stand bare in a class
  no_caret : (bs : List ℕ) (b : ℕ) → First now (b ∷ bs) → eqb b 94 ≡ false
  no_caret bs b (inl h) = ne_eqb b 94 (λ e. let u : unmarked 94 ≡ true = subst (λ (y : ℕ). unmarked y ≡ true) e h.0 in let z : ◌≡◌ {A = ℕ} 0 1 = cc in omega arith)
  no_caret bs b (inr h) = ne_eqb b 94 (λ e. omega (arith, h.0))

  open_on : (bs : List ℕ) → Opened now bs → NextAt ClassOpen bs
  open_on [] (inl h) = absurd h
  open_on (b ∷ bs) (inl h) = subst (λ p. FromRest p bs) (sym (cond-false (eqb b 94) _ _ (no_caret bs b h))) (first_on (b ∷ bs) h)
  open_on bs (inr h) = subst (NextAt ClassOpen) h.2 h.1

  forth : now.depth ≤ now.groups → (m : Mode) (bs : List ℕ) → Rest now m bs → NextAt m bs
  forth le Plain bs h = subst (NextAt Plain) h.2 (items_on le h.0 h.1)
  forth le Taken bs h = subst (NextAt Taken) h.3 (after_on le h.0 h.1 h.2)
  forth le Escape bs h = escape_on bs h
  forth le (Owing o) bs h = owed_on o bs h
  forth le ClassOpen bs h = open_on bs h
  forth le ClassFirst bs h = first_on bs h
  forth le Class bs h = any_members_on bs h
  forth le (ClassLast lo) bs h = last_on lo bs h
  forth le ClassEscape bs h = escaped_in_on bs h
  forth le (Range lo) bs h = upper_on lo bs h
  forth le (RangeEscape lo) bs h = range_on lo bs h

pub unfolds : (s : State) → Sound s → (bs : List ℕ) → Rests s bs → Next next done Rests s bs
unfolds s g [] h = forth s g.0.0 s.mode [] h
unfolds s g (b ∷ bs) h = forth s g.0.0 s.mode (b ∷ bs) h
