-- What may follow in each state of the reader. Assumes nothing.
use Rattle.std.proofs.Common.{◌≡◌, ℕ, ◌<◌, ◌≤◌, true, ◌⊎◌, List, [], ◌∷◌, Option}
use Rattle.chars.specs.Sets.{digit}
use Rattle.chars.specs.Marks.{mark, unmarked}
use Rattle.chars.proofs.Wide.{Owes}
use Rattle.matcher.proofs.Longest.{From}
use Rattle.chars.specs.declared.sets.Set.{Set}
use Rattle.grammar.specs.declared.reader.Mode.{Mode}
use Rattle.grammar.specs.declared.reader.Mode.TheVariants.{Plain, Taken, Escape, Owing, ClassOpen, ClassFirst, Class, ClassLast, ClassEscape, Range, RangeEscape}
use Rattle.grammar.specs.declared.reader.State.{State}
use Rattle.grammar.specs.Grammar.{Member, Times, Item, letter, member, members, times, written, GoodMember, GoodMembers, Good, LegalFrom}

-- what may follow, whatever the mode
module _ (now : State) where
  -- a repeat, perhaps, and more items
  abbrev pub After : List ℕ → Type 0
  After bs = (t : Times) × (is : List Item) × Good now.groups now.depth is × (times t (written is) ≡ bs)

  -- more members, the end of the class, and what follows it
  abbrev pub Members : List ℕ → Type 0
  Members bs = (ms : List Member) × (t : Times) × (is : List Item) × GoodMembers ms × Good now.groups now.depth is × (members ms (93 ∷ times t (written is)) ≡ bs)

  -- a member first
  abbrev pub Headed : List ℕ → Type 0
  Headed bs = (m : Member) × (cs : List ℕ) × GoodMember m × Members cs × (member m cs ≡ bs)

  abbrev pub UpperEscaped : ℕ → List ℕ → Type 0
  UpperEscaped lo [] = ⊥
  UpperEscaped lo (b ∷ cs) = (mark b ≡ true) × (lo < b) × Members cs

  abbrev pub Upper : ℕ → List ℕ → Type 0
  Upper lo [] = ⊥
  Upper lo (b ∷ cs) = ((unmarked b ≡ true) × (lo < b) × Members cs) ⊎ ((b ≡ 92) × UpperEscaped lo cs)

  abbrev pub Dashed : ℕ → List ℕ → Type 0
  Dashed lo [] = ⊥
  Dashed lo (b ∷ cs) = (b ≡ 45) × Upper lo cs

  abbrev pub Last : ℕ → List ℕ → Type 0
  Last lo bs = Members bs ⊎ Dashed lo bs

  abbrev pub EscapedIn : List ℕ → Type 0
  EscapedIn [] = ⊥
  EscapedIn (b ∷ cs) = ((mark b ≡ true) × Last b cs) ⊎ ((s : Set) × (letter s ≡ b) × Members cs)

  abbrev pub First : List ℕ → Type 0
  First [] = ⊥
  First (b ∷ cs) = ((unmarked b ≡ true) × Last b cs) ⊎ ((b ≡ 92) × EscapedIn cs)

  abbrev pub Opened : List ℕ → Type 0
  Opened bs = First bs ⊎ ((cs : List ℕ) × First cs × (94 ∷ cs ≡ bs))

  abbrev pub Escaping : List ℕ → Type 0
  Escaping [] = ⊥
  Escaping (b ∷ cs) = ((mark b ≡ true) × After cs) ⊎ (((digit b ≡ true) × LegalFrom now.groups now.depth cs) ⊎ ((s : Set) × (letter s ≡ b) × After cs))

  abbrev pub Rest : Mode → List ℕ → Type 0
  Rest Plain bs = LegalFrom now.groups now.depth bs
  Rest Taken bs = After bs
  Rest Escape bs = Escaping bs
  Rest (Owing o) bs = Owes o.more o.low o.high After bs
  Rest ClassOpen bs = Opened bs
  Rest ClassFirst bs = First bs
  Rest Class bs = Members bs
  Rest (ClassLast lo) bs = Last lo bs
  Rest ClassEscape bs = EscapedIn bs
  Rest (Range lo) bs = Upper lo bs
  Rest (RangeEscape lo) bs = UpperEscaped lo bs

abbrev pub Rests : State → List ℕ → Type 0
Rests s bs = Rest s s.mode bs

abbrev pub FromRest : Option State → List ℕ → Type 0
FromRest o bs = From Rests o bs

-- what holds of the states that are reached
abbrev pub SoundMode : Mode → Type 0
SoundMode Plain = Unit {0}
SoundMode Taken = Unit {0}
SoundMode Escape = Unit {0}
SoundMode (Owing o) = o.low ≤ o.high
SoundMode ClassOpen = Unit {0}
SoundMode ClassFirst = Unit {0}
SoundMode Class = Unit {0}
SoundMode (ClassLast lo) = Unit {0}
SoundMode ClassEscape = Unit {0}
SoundMode (Range lo) = lo < 127
SoundMode (RangeEscape lo) = lo < 126

abbrev pub Sound : State → Type 0
Sound s = ((s.depth ≤ s.groups) × (s.groups ≤ 15)) × SoundMode s.mode
