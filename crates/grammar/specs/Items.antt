-- What is read of an expression, item by item, beside the items of the grammar. Assumes nothing.
use Rattle.std.specs.Prelude.{◌≡◌, ℕ, Bool, true, false, cond, List, [], ◌∷◌, Some, None, Option, ◌==◌}
use Rattle.grammar.specs.declared.class.Class.{Class}
use Rattle.grammar.specs.declared.items.Piece.{Piece}
use Rattle.grammar.specs.declared.items.Piece.TheVariants as p
use Rattle.grammar.specs.declared.items.Times.{Times}
use Rattle.grammar.specs.declared.items.Times.TheVariants as t
use Rattle.grammar.specs.declared.items.Item.{Item}
use Rattle.grammar.specs.declared.items.Item.TheVariants as i
use Rattle.grammar.specs.declared.items.Items.{Items}
use Rattle.grammar.specs.Grammar as g
use Rattle.grammar.specs.Classes.{Holds}

-- what follows the class, after a backslash or not
abbrev pub shut_of : Bool → List ℕ → List ℕ
shut_of true [] = []
shut_of false [] = []
shut_of true (b ∷ bs) = shut_of false bs
shut_of false (b ∷ bs) = cond (b == 92) (shut_of true bs) (cond (b == 93) bs (shut_of false bs))

-- what was read is this piece of the grammar
abbrev pub IsPiece : Piece → g.Piece → Type 0
IsPiece x (g.char c) = x ≡ p.Char c
IsPiece x (g.wide c) = x ≡ p.Char c
IsPiece x (g.marked c) = x ≡ p.Char c
IsPiece x g.any = x ≡ p.Any
IsPiece x (g.set s) = x ≡ p.Set s
IsPiece x (g.class not m ms) = (k : Class) × (x ≡ p.Class k) × Holds k.negated k.members.now not m ms

abbrev pub times_of : g.Times → Times
times_of g.once = t.Once
times_of g.maybe = t.Maybe
times_of g.many = t.Many
times_of g.some = t.Some

-- what was read is this item of the grammar
abbrev pub IsItem : Item → g.Item → Type 0
IsItem x (g.takes y u) = (z : Piece) × (x ≡ i.Take z (times_of u)) × IsPiece z y
IsItem x g.start = x ≡ i.Start
IsItem x g.end = x ≡ i.End
IsItem x (g.never d) = x ≡ i.Never
IsItem x g.opens = x ≡ i.Open
IsItem x g.closes = x ≡ i.Close
IsItem x g.bar = x ≡ i.Bar

-- the items are written so, within an expression
pub record Written (bytes : List ℕ) (is : List g.Item) : Type 0 where
  pub opened : ℕ
  pub depth : ℕ
  pub good : g.Good opened depth is
  pub written : g.written is ≡ bytes

abbrev pub Parted : List g.Item → Option (Item × Items) → Type 0
Parted [] None = Unit {0}
Parted [] (Some r) = ⊥
Parted (y ∷ is) None = ⊥
Parted (y ∷ is) (Some r) = IsItem r.0 y × Written r.1.rest.now is

-- whatever items are written, the first of them is read, and the others are left
abbrev pub Reads : List ℕ → Option (Item × Items) → Type 0
Reads bytes r = (is : List g.Item) → Written bytes is → Parted is r

-- an item that comes is the first of those that are left
abbrev pub Yields : Items → Option Item → Items → Type 0
Yields s None t = Reads s.rest.now None
Yields s (Some x) t = Reads s.rest.now (Some (x, t))
