-- Every state that is reached has some end that may follow. Assumes nothing.
use Rattle.std.proofs.Common.{◌≡◌, ℕ, zero, suc, ◌-◌, ◌≤◌, Bool, true, false, cond, ◌&&◌, eqb, ltb, List, [], ◌∷◌, None, Option, refl, subst, inl, arith, Some}
use Rattle.std.proofs.lemmas.Bool.{ltb-true, and_parts}
use Rattle.chars.specs.Sets.{between}
use Rattle.chars.proofs.Wide.{Owes}
use Rattle.matcher.proofs.Longest.{Kept}
use Rattle.grammar.specs.declared.bytes.Kind.{Kind}
use Rattle.grammar.specs.declared.bytes.Kind.TheVariants as k
use Rattle.grammar.specs.declared.bytes.Inside.{Inside}
use Rattle.grammar.specs.declared.bytes.Inside.TheVariants as i
use Rattle.grammar.specs.declared.bytes.Escaped.{Escaped}
use Rattle.grammar.specs.declared.bytes.Escaped.TheVariants as e
use Rattle.grammar.specs.declared.reader.Mode.{Mode}
use Rattle.grammar.specs.declared.reader.Mode.TheVariants.{Plain, Taken, Escape, Owing, ClassOpen, ClassFirst, Class, ClassLast, ClassEscape, Range, RangeEscape}
use Rattle.grammar.specs.declared.reader.State.{State}
use Rattle.grammar.specs.Bytes.{kind_of, inside_of, escaped_of}
use Rattle.grammar.specs.Grammar.{once, Item, closes}
use Rattle.grammar.specs.Grammar.{written, Good}
use Rattle.grammar.specs.Reader.{outside, behind_piece, first, within, last, upper, escape, class_escape, range_escape, owed, moved, next, to}
use Rattle.grammar.proofs.Rests.{After, Members, First, Rest, Rests, SoundMode, Sound}
use Rattle.grammar.proofs.Told.{Told, told}

kept_if : (t : Bool) (o : Option State) → (t ≡ true → Kept Sound o) → Kept Sound (cond t o None)
kept_if true o h = h refl
kept_if false o h = tt

-- ===== some end that may follow
shut : ℕ → List Item
shut zero = []
shut (suc d) = closes ∷ shut d

good_shut : (g d : ℕ) → Good g d (shut d)
unfolding shut
good_shut g zero = refl
good_shut g (suc d) = (omega arith, subst (λ (n : ℕ). Good g n (shut d)) (let e : d ≡ suc d - 1 = omega arith in e) (good_shut g d))

owes_end : (L : List ℕ → Type 0) → (t : List ℕ) × L t → (n lo hi : ℕ) → lo ≤ hi → (t : List ℕ) × Owes n lo hi L t
owes_end L a zero lo hi h = (lo ∷ a.0, (omega arith, h, a.1))
owes_end L a (suc n) lo hi h = let r = owes_end L a n 128 191 (omega arith) in (lo ∷ r.0, (omega arith, h, r.1))

module _ (now : State) where
  after_end : After now (written (shut now.depth))
  after_end = (once, shut now.depth, good_shut now.groups now.depth, refl)

  members_end : Members now (93 ∷ written (shut now.depth))
  members_end = ([], once, shut now.depth, tt, good_shut now.groups now.depth, refl)

  first_end : First now (97 ∷ 93 ∷ written (shut now.depth))
  first_end = inl (refl, inl members_end)

  end_of : (m : Mode) → SoundMode m → (t : List ℕ) × Rest now m t
  end_of Plain h = (written (shut now.depth), (shut now.depth, good_shut now.groups now.depth, refl))
  end_of Taken h = (written (shut now.depth), after_end)
  end_of Escape h = (46 ∷ written (shut now.depth), inl (refl, after_end))
  end_of (Owing o) h = owes_end (After now) (written (shut now.depth), after_end) o.more o.low o.high h
  end_of ClassOpen h = (97 ∷ 93 ∷ written (shut now.depth), inl first_end)
  end_of ClassFirst h = (97 ∷ 93 ∷ written (shut now.depth), first_end)
  end_of Class h = (93 ∷ written (shut now.depth), members_end)
  end_of (ClassLast lo) h = (93 ∷ written (shut now.depth), inl members_end)
  end_of ClassEscape h = (46 ∷ 93 ∷ written (shut now.depth), inl (refl, inl members_end))
  end_of (Range lo) h = (127 ∷ 93 ∷ written (shut now.depth), inl (refl, h, members_end))
  end_of (RangeEscape lo) h = (126 ∷ 93 ∷ written (shut now.depth), (refl, h, members_end))

-- ===== the states that are reached
module _ (now : State) (h : (now.depth ≤ now.groups) × (now.groups ≤ 15)) where
  kept_outside : (q : Option Kind) (b : ℕ) → Told q b → Kept Sound (outside now q)
  kept_outside (Some k.Bare) b e = (h, tt)
  kept_outside (Some (k.Lead o)) b e = (h, (e).1)
  kept_outside (Some k.Bar) b e = kept_if (eqb now.depth 0) _ (λ _. (h, tt))
  kept_outside (Some k.Open) b e = kept_if (ltb now.groups 15 && ltb now.depth 15) _ (λ u. ((omega arith, omega (arith, ltb-true now.groups 15 (and_parts (ltb now.groups 15) (ltb now.depth 15) u).0)), tt))
  kept_outside (Some k.Close) b e = kept_if (ltb 0 now.depth) _ (λ u. ((omega arith, omega arith), tt))
  kept_outside (Some k.Start) b e = (h, tt)
  kept_outside (Some k.End) b e = (h, tt)
  kept_outside (Some k.Dot) b e = (h, tt)
  kept_outside (Some k.Repeat) b e = tt
  kept_outside (Some k.Backslash) b e = (h, tt)
  kept_outside (Some k.Bracket) b e = (h, tt)
  kept_outside None b e = tt

  kept_behind : (q : Option Kind) (b : ℕ) → Told q b → Kept Sound (behind_piece now q)
  kept_behind (Some k.Repeat) b e = (h, tt)
  kept_behind other b e = kept_outside other b e

  kept_first : (q : Option Inside) (b : ℕ) → Kept Sound (first now b q)
  kept_first (Some i.Bare) b = (h, tt)
  kept_first (Some i.Backslash) b = (h, tt)
  kept_first (Some i.Shut) b = tt
  kept_first (Some i.Dash) b = tt
  kept_first None b = tt

  kept_within : (q : Option Inside) (b : ℕ) → Kept Sound (within now b q)
  kept_within (Some i.Bare) b = (h, tt)
  kept_within (Some i.Backslash) b = (h, tt)
  kept_within (Some i.Shut) b = (h, tt)
  kept_within (Some i.Dash) b = tt
  kept_within None b = tt

  kept_last : (lo : ℕ) (q : Option Inside) (b : ℕ) → Kept Sound (last now lo b q)
  kept_last lo (Some i.Bare) b = (h, tt)
  kept_last lo (Some i.Backslash) b = (h, tt)
  kept_last lo (Some i.Shut) b = (h, tt)
  kept_last lo (Some i.Dash) b = kept_if (ltb lo 127) _ (λ u. (h, ltb-true lo 127 u))
  kept_last lo None b = tt

  kept_upper : (lo : ℕ) (q : Option Inside) (b : ℕ) → Kept Sound (upper now lo b q)
  kept_upper lo (Some i.Bare) b = kept_if (ltb lo b) _ (λ _. (h, tt))
  kept_upper lo (Some i.Backslash) b = kept_if (ltb lo 126) _ (λ u. (h, ltb-true lo 126 u))
  kept_upper lo (Some i.Shut) b = tt
  kept_upper lo (Some i.Dash) b = tt
  kept_upper lo None b = tt

  kept_escape : (q : Option Escaped) → Kept Sound (escape now q)
  kept_escape (Some e.Mark) = (h, tt)
  kept_escape (Some e.Digit) = (h, tt)
  kept_escape (Some (e.Set s)) = (h, tt)
  kept_escape None = tt

  kept_in : (q : Option Escaped) (b : ℕ) → Kept Sound (class_escape now b q)
  kept_in (Some e.Mark) b = (h, tt)
  kept_in (Some e.Digit) b = tt
  kept_in (Some (e.Set s)) b = (h, tt)
  kept_in None b = tt

  kept_range : (lo : ℕ) (q : Option Escaped) (b : ℕ) → Kept Sound (range_escape now lo b q)
  kept_range lo (Some e.Mark) b = kept_if (ltb lo b) _ (λ _. (h, tt))
  kept_range lo (Some e.Digit) b = tt
  kept_range lo (Some (e.Set s)) b = tt
  kept_range lo None b = tt

  kept_owed : (n : ℕ) → Kept Sound (to now (owed n))
  kept_owed zero = (h, tt)
  kept_owed (suc n) = (h, omega arith)

  kept_open : (t : Bool) (b : ℕ) → Kept Sound (cond t (to now ClassFirst) (first now b (inside_of b)))
  kept_open true b = (h, tt)
  kept_open false b = kept_first (inside_of b) b

  kept : (m : Mode) (b : ℕ) → Kept Sound (moved now m b)
  kept Plain b = kept_outside (kind_of b) b (told b)
  kept Taken b = kept_behind (kind_of b) b (told b)
  kept Escape b = kept_escape (escaped_of b)
  kept (Owing o) b = kept_if (between o.low o.high b) _ (λ _. kept_owed o.more)
  kept ClassOpen b = kept_open (eqb b 94) b
  kept ClassFirst b = kept_first (inside_of b) b
  kept Class b = kept_within (inside_of b) b
  kept (ClassLast lo) b = kept_last lo (inside_of b) b
  kept ClassEscape b = kept_in (escaped_of b) b
  kept (Range lo) b = kept_upper lo (inside_of b) b
  kept (RangeEscape lo) b = kept_range lo (escaped_of b) b

pub alive : (s : State) → Sound s → (t : List ℕ) × Rests s t
alive s h = end_of s s.mode h.1

pub keeps : (s : State) → Sound s → (b : ℕ) → Kept Sound (next s b)
keeps s h b = kept s h.0 s.mode b
