-- What a search for words answers, as it is computed. Assumes nothing.
use Rattle.std.specs.Prelude.{ℕ, ◌+◌, ◌-◌, Bool, true, false, cond, not, ◌&&◌, ◌||◌, List, [], ◌∷◌, length, drop, Some, None, Option, ◌==◌, nat_le, slice_index}
use Rattle.std.specs.Char.{to_ascii_lowercase}
use Rattle.chars.specs.Sets.{digit, word}
use Rattle.matcher.specs.declared.answer.Region.{Region}
use Rattle.matcher.specs.Regions.{spanning}
use Rattle.matcher.specs.Laws.{Meaning}
use Rattle.scan.specs.Earliest.{earliest}
use Rattle.words.specs.Reader.{refusal}

-- the bytes of a word; none for a backslash and digit, which stands nowhere
abbrev pub Letters : Type 0
Letters = List (Option ℕ)

abbrev pub onto : Option ℕ → List Letters → List Letters
onto b [] = (b ∷ []) ∷ []
onto b (w ∷ ws) = (b ∷ w) ∷ ws

-- the words that the bytes of an expression spell, after a backslash or not
abbrev pub read_from : Bool → List ℕ → List Letters
read_from escaped [] = [] ∷ []
read_from true (b ∷ bs) = onto (cond (digit b) None (Some b)) (read_from false bs)
read_from false (b ∷ bs) = cond (b == 92) (read_from true bs) (cond (b == 124) ([] ∷ read_from false bs) (onto (Some b) (read_from false bs)))

abbrev pub words_of : List ℕ → List Letters
words_of e = read_from false e

-- the same byte, or the same ASCII letter in the other case
abbrev pub same_letter : ℕ → ℕ → Bool
same_letter a b = to_ascii_lowercase a == to_ascii_lowercase b

-- the word stands at the front of the bytes
abbrev pub stands : Letters → List ℕ → Bool
stands [] bs = true
stands (None ∷ w) bs = false
stands (Some a ∷ w) [] = false
stands (Some a ∷ w) (b ∷ bs) = same_letter a b && stands w bs

-- what may not touch a word
abbrev pub side : ℕ → Bool
side b = word b

abbrev pub free_before : List ℕ → ℕ → Bool
free_before l p = p == 0 || not (side (slice_index l (p - 1)))

abbrev pub free_after : List ℕ → ℕ → Bool
free_after l p = nat_le (length l) p || not (side (slice_index l p))

-- the word counts at p
abbrev pub counts : Letters → List ℕ → ℕ → Bool
counts w l p = free_before l p && (stands w (drop p l) && free_after l (p + length w))

-- the first word that counts at p
abbrev pub first_of : List Letters → List ℕ → ℕ → Option Region
first_of [] l p = None
first_of (w ∷ ws) l p = cond (counts w l p) (Some (spanning p (p + length w))) (first_of ws l p)

abbrev pub word_at : List ℕ → List ℕ → ℕ → Option Region
word_at e l p = first_of (words_of e) l p

abbrev pub meaning : Meaning
meaning = earliest refusal word_at
