-- From what may follow after a byte back to what may follow before it. Assumes nothing.
use Rattle.std.proofs.Common.{◌≡◌, ℕ, zero, suc, Bool, true, false, cond, ◌&&◌, eqb, ltb, leb, List, [], ◌∷◌, ◌++◌, None, Option, sym, refl, ap, ◌∙◌, subst, inl, inr, arith, Some}
use lib.Utf8.{encode}
use Rattle.std.proofs.lemmas.Bool.{eqb-true, ltb-true, leb-true, and_parts}
use Rattle.chars.specs.Sets.{between}
use Rattle.chars.proofs.Wide.{Owes, whole, Following}
use Rattle.matcher.proofs.Longest.{Next}
use Rattle.grammar.specs.declared.bytes.Kind.{Kind}
use Rattle.grammar.specs.declared.bytes.Kind.TheVariants as k
use Rattle.grammar.specs.declared.bytes.Inside.{Inside}
use Rattle.grammar.specs.declared.bytes.Inside.TheVariants as i
use Rattle.grammar.specs.declared.bytes.Escaped.{Escaped}
use Rattle.grammar.specs.declared.bytes.Escaped.TheVariants as e
use Rattle.grammar.specs.declared.reader.Mode.{Mode}
use Rattle.grammar.specs.declared.reader.Mode.TheVariants.{Plain, Taken, Escape, Owing, ClassOpen, ClassFirst, Class, ClassLast, ClassEscape, Range, RangeEscape}
use Rattle.grammar.specs.declared.reader.State.{State}
use Rattle.grammar.specs.Bytes.{kind_of, inside_of, escaped_of}
use Rattle.grammar.specs.Grammar.{Sign, plain, escaped, one, range, every, char, wide, marked, any, set, class, once, maybe, many, some, takes, start, end, never, opens, closes, bar}
use Rattle.grammar.specs.Grammar.{sign, value, member, caret, GoodSign, LegalFrom}
use Rattle.grammar.specs.Reader.{outside, behind_piece, first, within, last, upper, escape, class_escape, range_escape, owed, moved, next, ends, done, to}
use Rattle.grammar.proofs.Rests.{After, Members, Headed, UpperEscaped, Upper, Last, EscapedIn, First, Opened, Escaping, Rest, Rests, FromRest}
use Rattle.grammar.proofs.Told.{Told, told, ToldIn, told_in, ToldAfter, told_after}

if_so : (t : Bool) (o : Option State) (bs : List ℕ) → FromRest (cond t o None) bs → (t ≡ true) × FromRest o bs
if_so true o bs h = (refl, h)
if_so false o bs h = absurd h

module _ (now : State) where
  late : (bs : List ℕ) → LegalFrom now.groups now.depth bs → After now bs
  late bs h = (once, h.0, h.1, h.2)

  headed : (bs : List ℕ) → Headed now bs → Members now bs
  headed bs h =
      let r = h.3 in
      (h.0 ∷ r.0, r.1, r.2, (h.2, r.3), r.4, ap (member h.0) r.5 ∙ h.4)

  upper_head : (a : Sign) → GoodSign a → (cs : List ℕ) → Upper now (value a) cs → Headed now (sign a (45 ∷ cs))
  upper_head a ga [] h = absurd h
  upper_head a ga (z ∷ cs) (inl h) = (range a (plain z), cs, (ga, h.0, h.1), h.2, refl)
  upper_head a ga (x ∷ []) (inr h) = absurd h.1
  upper_head a ga (x ∷ z ∷ cs) (inr h) = (range a (escaped z), cs, (ga, h.1.0, h.1.1), h.1.2, ap (λ (y : ℕ). sign a (45 ∷ y ∷ z ∷ cs)) (sym h.0))

  last_head : (a : Sign) → GoodSign a → (cs : List ℕ) → Last now (value a) cs → Headed now (sign a cs)
  last_head a ga cs (inl h) = (one a, cs, ga, h, refl)
  last_head a ga [] (inr h) = absurd h
  last_head a ga (x ∷ cs) (inr h) = subst (λ (y : ℕ). Headed now (sign a (y ∷ cs))) (sym h.0) (upper_head a ga cs h.1)

  escaped_head : (cs : List ℕ) → EscapedIn now cs → Headed now (92 ∷ cs)
  escaped_head [] h = absurd h
  escaped_head (b ∷ cs) (inl h) = last_head (escaped b) h.0 cs h.1
  escaped_head (b ∷ cs) (inr h) = (every h.0, cs, tt, h.2, ap (λ (y : ℕ). 92 ∷ y ∷ cs) h.1)

  first_head : (bs : List ℕ) → First now bs → Headed now bs
  first_head [] h = absurd h
  first_head (b ∷ cs) (inl h) = last_head (plain b) h.0 cs h.1
  first_head (b ∷ cs) (inr h) = subst (λ (y : ℕ). Headed now (y ∷ cs)) (sym h.0) (escaped_head cs h.1)

  class_item : (t : Bool) (cs : List ℕ) → First now cs → LegalFrom now.groups now.depth (91 ∷ caret t cs)
  class_item t cs h =
      let m = first_head cs h in
      let r = m.3 in
      (takes (class t m.0 r.0) r.1 ∷ r.2, ((m.2, r.3), r.4), ap (λ bs. 91 ∷ caret t bs) (ap (member m.0) r.5 ∙ m.4))

  back_outside : (q : Option Kind) (b : ℕ) (bs : List ℕ) → Told q b → FromRest (outside now q) bs → LegalFrom now.groups now.depth (b ∷ bs)
  back_outside (Some k.Bare) b bs e h = (takes (char b) h.0 ∷ h.1, (e, h.2), ap (λ cs. b ∷ cs) h.3)
  back_outside (Some (k.Lead o)) b bs e h =
      let w = whole (After now) b bs (subst (λ q. Following (After now) q bs) e.0 h) in
      let r = w.4 in
      (takes (wide w.0) r.0 ∷ r.1, ((w.2, w.3), r.2), ap (λ cs. encode w.0 ++ cs) r.3 ∙ w.5)
  back_outside (Some k.Bar) b bs e h = let u = if_so (eqb now.depth 0) _ bs h in (bar ∷ u.1.0, (eqb-true now.depth 0 u.0, u.1.1), λ j. sym e j ∷ u.1.2 j)
  back_outside (Some k.Open) b bs e h = let u = if_so (ltb now.groups 15 && ltb now.depth 15) _ bs h in (opens ∷ u.1.0, (ltb-true now.groups 15 (and_parts (ltb now.groups 15) (ltb now.depth 15) u.0).0, u.1.1), λ j. sym e j ∷ u.1.2 j)
  back_outside (Some k.Close) b bs e h = let u = if_so (ltb 0 now.depth) _ bs h in (closes ∷ u.1.0, (ltb-true 0 now.depth u.0, u.1.1), λ j. sym e j ∷ u.1.2 j)
  back_outside (Some k.Start) b bs e h = (start ∷ h.0, h.1, λ j. sym e j ∷ h.2 j)
  back_outside (Some k.End) b bs e h = (end ∷ h.0, h.1, λ j. sym e j ∷ h.2 j)
  back_outside (Some k.Dot) b bs e h = (takes any h.0 ∷ h.1, (tt, h.2), λ j. sym e j ∷ h.3 j)
  back_outside (Some k.Repeat) b bs e h = absurd h
  back_outside (Some k.Backslash) b [] e h = absurd h
  back_outside (Some k.Backslash) b (c ∷ bs) e (inl h) = (takes (marked c) h.1.0 ∷ h.1.1, (h.0, h.1.2), λ j. sym e j ∷ c ∷ h.1.3 j)
  back_outside (Some k.Backslash) b (c ∷ bs) e (inr (inl h)) = (never c ∷ h.1.0, (h.0, h.1.1), λ j. sym e j ∷ c ∷ h.1.2 j)
  back_outside (Some k.Backslash) b (c ∷ bs) e (inr (inr h)) = (takes (set h.0) h.2.0 ∷ h.2.1, (tt, h.2.2), λ j. sym e j ∷ h.1 j ∷ h.2.3 j)
  back_outside (Some k.Bracket) b bs e (inl h) = subst (λ (y : ℕ). LegalFrom now.groups now.depth (y ∷ bs)) (sym e) (class_item false bs h)
  back_outside (Some k.Bracket) b bs e (inr h) = subst (LegalFrom now.groups now.depth) (λ j. sym e j ∷ h.2 j) (class_item true h.0 h.1)
  back_outside None b bs e h = absurd h

  repeats : (b : ℕ) (bs : List ℕ) → Told (Some k.Repeat) b → LegalFrom now.groups now.depth bs → After now (b ∷ bs)
  repeats b bs (inl e) h = (maybe, h.0, h.1, λ j. sym e j ∷ h.2 j)
  repeats b bs (inr (inl e)) h = (many, h.0, h.1, λ j. sym e j ∷ h.2 j)
  repeats b bs (inr (inr e)) h = (some, h.0, h.1, λ j. sym e j ∷ h.2 j)

  back_behind : (q : Option Kind) (b : ℕ) (bs : List ℕ) → Told q b → FromRest (behind_piece now q) bs → After now (b ∷ bs)
  back_behind (Some k.Repeat) b bs e h = repeats b bs e h
  back_behind other b bs e h = late _ (back_outside other b bs e h)

  back_first : (q : Option Inside) (b : ℕ) (bs : List ℕ) → ToldIn q b → FromRest (first now b q) bs → First now (b ∷ bs)
  back_first (Some i.Bare) b bs e h = inl (e, h)
  back_first (Some i.Backslash) b bs e h = inr (e, h)
  back_first (Some i.Shut) b bs e h = absurd h
  back_first (Some i.Dash) b bs e h = absurd h
  back_first None b bs e h = absurd h

  shuts : (b : ℕ) (bs : List ℕ) → b ≡ 93 → After now bs → Members now (b ∷ bs)
  shuts b bs e h = ([], h.0, h.1, tt, h.2, λ j. sym e j ∷ h.3 j)

  back_within : (q : Option Inside) (b : ℕ) (bs : List ℕ) → ToldIn q b → FromRest (within now b q) bs → Members now (b ∷ bs)
  back_within (Some i.Bare) b bs e h = headed (b ∷ bs) (first_head (b ∷ bs) (inl (e, h)))
  back_within (Some i.Backslash) b bs e h = headed (b ∷ bs) (first_head (b ∷ bs) (inr (e, h)))
  back_within (Some i.Shut) b bs e h = shuts b bs e h
  back_within (Some i.Dash) b bs e h = absurd h
  back_within None b bs e h = absurd h

  back_last : (lo : ℕ) (q : Option Inside) (b : ℕ) (bs : List ℕ) → ToldIn q b → FromRest (last now lo b q) bs → Last now lo (b ∷ bs)
  back_last lo (Some i.Bare) b bs e h = inl (back_within (Some i.Bare) b bs e h)
  back_last lo (Some i.Backslash) b bs e h = inl (back_within (Some i.Backslash) b bs e h)
  back_last lo (Some i.Shut) b bs e h = inl (shuts b bs e h)
  back_last lo (Some i.Dash) b bs e h = inr (e, (if_so (ltb lo 127) _ bs h).1)
  back_last lo None b bs e h = absurd h

  back_upper : (lo : ℕ) (q : Option Inside) (b : ℕ) (bs : List ℕ) → ToldIn q b → FromRest (upper now lo b q) bs → Upper now lo (b ∷ bs)
  back_upper lo (Some i.Bare) b bs e h = let u = if_so (ltb lo b) _ bs h in inl (e, ltb-true lo b u.0, u.1)
  back_upper lo (Some i.Backslash) b bs e h = inr (e, (if_so (ltb lo 126) _ bs h).1)
  back_upper lo (Some i.Shut) b bs e h = absurd h
  back_upper lo (Some i.Dash) b bs e h = absurd h
  back_upper lo None b bs e h = absurd h

  back_escape : (q : Option Escaped) (b : ℕ) (bs : List ℕ) → ToldAfter q b → FromRest (escape now q) bs → Escaping now (b ∷ bs)
  back_escape (Some e.Mark) b bs e h = inl (e, h)
  back_escape (Some e.Digit) b bs e h = inr (inl (e, h))
  back_escape (Some (e.Set s)) b bs e h = inr (inr (s, e, h))
  back_escape None b bs e h = absurd h

  back_in : (q : Option Escaped) (b : ℕ) (bs : List ℕ) → ToldAfter q b → FromRest (class_escape now b q) bs → EscapedIn now (b ∷ bs)
  back_in (Some e.Mark) b bs e h = inl (e, h)
  back_in (Some e.Digit) b bs e h = absurd h
  back_in (Some (e.Set s)) b bs e h = inr (s, e, h)
  back_in None b bs e h = absurd h

  back_range : (lo : ℕ) (q : Option Escaped) (b : ℕ) (bs : List ℕ) → ToldAfter q b → FromRest (range_escape now lo b q) bs → UpperEscaped now lo (b ∷ bs)
  back_range lo (Some e.Mark) b bs e h = let u = if_so (ltb lo b) _ bs h in (e, ltb-true lo b u.0, u.1)
  back_range lo (Some e.Digit) b bs e h = absurd h
  back_range lo (Some (e.Set s)) b bs e h = absurd h
  back_range lo None b bs e h = absurd h

  back_owed : (n lo hi b : ℕ) (bs : List ℕ) → between lo hi b ≡ true → Rest now (owed n) bs → Owes n lo hi (After now) (b ∷ bs)
  back_owed zero lo hi b bs e h = let u = and_parts (leb lo b) (leb b hi) e in (leb-true lo b u.0, leb-true b hi u.1, h)
  back_owed (suc n) lo hi b bs e h = let u = and_parts (leb lo b) (leb b hi) e in (leb-true lo b u.0, leb-true b hi u.1, h)

  back_open : (t : Bool) (b : ℕ) (bs : List ℕ) → eqb b 94 ≡ t → FromRest (cond t (to now ClassFirst) (first now b (inside_of b))) bs → Opened now (b ∷ bs)
  back_open true b bs e h = inr (bs, h, λ j. sym (eqb-true b 94 e) j ∷ bs)
  back_open false b bs e h = inl (back_first (inside_of b) b bs (told_in b) h)

  back : (m : Mode) (b : ℕ) (bs : List ℕ) → FromRest (moved now m b) bs → Rest now m (b ∷ bs)
  back Plain b bs h = back_outside (kind_of b) b bs (told b) h
  back Taken b bs h = back_behind (kind_of b) b bs (told b) h
  back Escape b bs h = back_escape (escaped_of b) b bs (told_after b) h
  back (Owing o) b bs h = let u = if_so (between o.low o.high b) _ bs h in back_owed o.more o.low o.high b bs u.0 u.1
  back ClassOpen b bs h = back_open (eqb b 94) b bs refl h
  back ClassFirst b bs h = back_first (inside_of b) b bs (told_in b) h
  back Class b bs h = back_within (inside_of b) b bs (told_in b) h
  back (ClassLast lo) b bs h = back_last lo (inside_of b) b bs (told_in b) h
  back ClassEscape b bs h = back_in (escaped_of b) b bs (told_after b) h
  back (Range lo) b bs h = back_upper lo (inside_of b) b bs (told_in b) h
  back (RangeEscape lo) b bs h = back_range lo (escaped_of b) b bs (told_after b) h

  over : (m : Mode) → (ends m && eqb now.depth 0) ≡ true → Rest now m []
  over Plain e = ([], eqb-true now.depth 0 e, refl)
  over Taken e = (once, [], eqb-true now.depth 0 e, refl)
  over Escape e = let z : ◌≡◌ {A = ℕ} 0 1 = cc in absurd (omega arith)
  over (Owing o) e = let z : ◌≡◌ {A = ℕ} 0 1 = cc in absurd (omega arith)
  over ClassOpen e = let z : ◌≡◌ {A = ℕ} 0 1 = cc in absurd (omega arith)
  over ClassFirst e = let z : ◌≡◌ {A = ℕ} 0 1 = cc in absurd (omega arith)
  over Class e = let z : ◌≡◌ {A = ℕ} 0 1 = cc in absurd (omega arith)
  over (ClassLast lo) e = let z : ◌≡◌ {A = ℕ} 0 1 = cc in absurd (omega arith)
  over ClassEscape e = let z : ◌≡◌ {A = ℕ} 0 1 = cc in absurd (omega arith)
  over (Range lo) e = let z : ◌≡◌ {A = ℕ} 0 1 = cc in absurd (omega arith)
  over (RangeEscape lo) e = let z : ◌≡◌ {A = ℕ} 0 1 = cc in absurd (omega arith)

pub folds : (s : State) (bs : List ℕ) → Next next done Rests s bs → Rests s bs
folds s [] h = over s s.mode h
folds s (b ∷ bs) h = back s s.mode b bs h
