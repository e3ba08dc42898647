-- The walk of the code through an expression, a byte at a time. Assumes nothing.
use Rattle.std.specs.Prelude.{ℕ, ◌+◌, Bool, true, false, cond, not, ◌&&◌, List, [], ◌∷◌, length, Some, None, Option, ◌==◌, nat_lt, slice_index}
use Rattle.chars.specs.Sets.{digit}
use Rattle.word.specs.declared.walk.Walk.{Walk}
use Rattle.words.specs.Meaning.{same_letter, free_after}

abbrev pub walking : Bool → Option ℕ → Walk
walking escaped reached = record { escaped = escaped; reached = reached }

abbrev pub fresh : ℕ → Walk
fresh p = walking false (Some p)

-- b divides two words
abbrev pub bar : Walk → ℕ → Bool
bar w b = not w.escaped && b == 124

abbrev pub letter_at : Option ℕ → ℕ → List ℕ → Option ℕ
letter_at None b l = None
letter_at (Some q) b l = cond (nat_lt q (length l) && same_letter b (slice_index l q)) (Some (q + 1)) None

abbrev pub stepped_from : Bool → Option ℕ → ℕ → List ℕ → Walk
stepped_from true reached b l = walking false (cond (digit b) None (letter_at reached b l))
stepped_from false reached b l = cond (b == 92) (walking true reached) (walking false (letter_at reached b l))

abbrev pub stepped : Walk → ℕ → List ℕ → Walk
stepped w b l = stepped_from w.escaped w.reached b l

abbrev pub end_of : Option ℕ → List ℕ → Option ℕ
end_of None l = None
end_of (Some q) l = cond (free_after l q) (Some q) None

abbrev pub or_end : Option ℕ → Option ℕ → Option ℕ
or_end (Some q) o = Some q
or_end None o = o

-- where the first word that stands at p ends, with the walk so far and the bytes that are left of the expression
abbrev pub found : List ℕ → ℕ → Walk → List ℕ → Option ℕ
found l p w [] = end_of w.reached l
found l p w (b ∷ bs) =
    cond (bar w b) (or_end (end_of w.reached l) (found l p (fresh p) bs)) (found l p (stepped w b l) bs)
