-- The characters that need a backslash to stand for themselves. Assumes nothing.
use Rattle.std.specs.Prelude.{ℕ, Bool, false, not, ◌&&◌, ◌||◌, List, [], ◌∷◌, codes, ◌==◌, nat_lt}

abbrev pub among : List ℕ → ℕ → Bool
among [] c = false
among (x ∷ xs) c = c == x || among xs c

-- the 18 marks
abbrev pub mark : ℕ → Bool
mark c = among (codes "\\.+*?()|[]{}^$#&-~") c

-- an ASCII character that is no mark
abbrev pub unmarked : ℕ → Bool
unmarked c = nat_lt c 128 && not (mark c)

-- an ASCII character that stands for itself: no mark but  # & - ~
abbrev pub bare : ℕ → Bool
bare c = among (codes "#&-~") c || unmarked c
