-- The first match of an alternative: each repeat takes as many characters as it can, and gives back one at a time.
-- Assumes nothing.
use Rattle.std.specs.Prelude.{ℕ, zero, suc, ◌+◌, Bool, true, false, cond, not, ◌&&◌, ◌||◌, List, [], ◌∷◌, length, drop, Some, None, Option, ◌==◌, slice_index}
use Rattle.std.specs.Char.{len_utf8}
use Rattle.std.specs.Str.{chars}
use Rattle.grammar.specs.Grammar.{Piece, char, wide, marked, any, set, class, Times, once, maybe, many, some, Item, takes, start, end, never, opens, closes, bar}
use Rattle.chars.specs.Sets.{in_set}
use Rattle.grammar.specs.Classes.{in_class}

-- the piece takes the character c
abbrev pub accepts : Piece → ℕ → Bool
accepts (char x) c = c == x
accepts (wide x) c = c == x
accepts (marked x) c = c == x
accepts any c = not (c == 10)
accepts (set s) c = in_set s c
accepts (class not m ms) c = in_class not (m ∷ ms) c

-- where the first of the characters ends, which begin at p, if the piece takes it
abbrev pub past : Piece → ℕ → List ℕ → Option ℕ
past x p [] = None
past x p (c ∷ cs) = cond (accepts x c) (Some (p + len_utf8 c)) None

-- where the character at p ends, if the piece takes it
abbrev pub step : List ℕ → Piece → ℕ → Option ℕ
step l x p = past x p (chars (drop p l))

-- `$` holds at the line's end, and before a byte 10 that ends the line
abbrev pub at_end : List ℕ → ℕ → Bool
at_end l p = p == length l || (suc p == length l && slice_index l p == 10)

-- A way is a list of places: where each item ends.
abbrev pub Way : Type 0
Way = List ℕ

abbrev pub then : Option ℕ → (ℕ → Option Way) → Option Way
then None k = None
then (Some q) k = k q

abbrev pub else : Option Way → Option Way → Option Way
else None o = o
else (Some w) o = Some w

abbrev pub when : Bool → Option Way → Option Way
when true o = o
when false o = None

abbrev pub from : ℕ → Option Way → Option Way
from q None = None
from q (Some w) = Some (q ∷ w)

-- as many steps as there can be, giving back one at a time; n bounds how many
abbrev pub most : (ℕ → Option ℕ) → (ℕ → Option Way) → ℕ → ℕ → Option Way
most s k zero p = k p
most s k (suc n) p = else (then (s p) (most s k n)) (k p)

-- how often a piece is taken: s steps, k goes on
abbrev pub taken : List ℕ → Times → (ℕ → Option ℕ) → (ℕ → Option Way) → ℕ → Option Way
taken l once s k p = then (s p) k
taken l maybe s k p = most s k 1 p
taken l many s k p = most s k (length l) p
taken l some s k p = then (s p) (most s k (length l))

-- the way of the first match of the items from p on
abbrev pub run : List ℕ → List Item → ℕ → Option Way
run l [] p = Some []
run l (takes x t ∷ is) p = taken l t (step l x) (λ q. from q (run l is q)) p
run l (start ∷ is) p = when (p == 0) (from p (run l is p))
run l (end ∷ is) p = when (at_end l p) (from p (run l is p))
run l (never d ∷ is) p = None
run l (opens ∷ is) p = from p (run l is p)
run l (closes ∷ is) p = from p (run l is p)
run l (bar ∷ is) p = None
