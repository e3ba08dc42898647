-- What an answer says of the expression and the line. Assumes nothing.
use Rattle.std.specs.Prelude.{◌≡◌, ℕ, suc, ◌+◌, ◌<◌, ◌≤◌, false, List, [], ◌∷◌, ◌++◌, length, Ok, Err, Some, None, IsUtf8, slice_index}
use Rattle.std.proofs.Math.Utf8.{encode}
use Rattle.std.specs.Char.{to_ascii_lowercase}
use Rattle.std.specs.Str.{IsCharBoundary}
use Rattle.std.specs.List.{AllByRecursion}
use Rattle.matcher.specs.declared.answer.Region.{Region}
use Rattle.matcher.specs.Answers.{Answer}
use Rattle.matcher.specs.Regions.{spanning}
use Rattle.matcher.specs.Refusals.{Longest}
use Rattle.words.specs.Grammar.{Sign, plain, wide, marked, numbered, Word, Expression, signs, words, Spells, Legal}
use Rattle.words.specs.Meaning.{side}

-- t is the text that the signs stand for; a backslash and digit stands for none
abbrev pub Texts : List Sign → List ℕ → Type 0
Texts [] t = t ≡ []
Texts (plain c ∷ ss) t = (rest : List ℕ) × (t ≡ c ∷ rest) × Texts ss rest
Texts (wide c ∷ ss) t = (rest : List ℕ) × (t ≡ encode c ++ rest) × Texts ss rest
Texts (marked c ∷ ss) t = (rest : List ℕ) × (t ≡ c ∷ rest) × Texts ss rest
Texts (numbered d ∷ ss) t = ⊥

-- the word counts in the line from `begin` to `end`: its text stands there, letters in either case, and nothing touches it
pub record Counts (w : Word) (l : List ℕ) (begin end : ℕ) : Type 0 where
  pub text : List ℕ
  pub spelled : Texts (signs w) text
  pub long : begin + length text ≡ end
  pub within : end ≤ length l
  pub same : (i : ℕ) → i < length text → to_ascii_lowercase (slice_index l (begin + i)) ≡ to_ascii_lowercase (slice_index text i)
  pub before : (k : ℕ) → suc k ≡ begin → side (slice_index l k) ≡ false
  pub behind : end < length l → side (slice_index l end) ≡ false

-- none of the words counts from `begin`
abbrev pub NoneCounts : List Word → List ℕ → ℕ → Type 0
NoneCounts ws l begin = AllByRecursion (λ (w : Word). (end : ℕ) → Counts w l begin end → ⊥) ws

-- the region is the earliest word that counts from p on and, of those that begin there, the first in the expression
pub record First (x : Expression) (l : List ℕ) (p : ℕ) (r : Region) : Type 0 where
  pub begin : ℕ
  pub end : ℕ
  pub earlier : List Word
  pub which : Word
  pub later : List Word
  -- only group 0 is present
  pub is : r ≡ spanning begin end
  pub edge : IsCharBoundary l begin
  pub after : p ≤ begin
  pub among : words x ≡ earlier ++ which ∷ later
  pub counts : Counts which l begin end
  pub no_sooner : (q : ℕ) → p ≤ q → q < begin → IsCharBoundary l q → NoneCounts (words x) l q
  pub no_other : NoneCounts earlier l begin

abbrev pub Told : List ℕ → List ℕ → ℕ → Answer → Type 0
Told e l p (Err x) = Longest Legal e x.at
Told e l p (Ok (Some r)) = Legal e × ((x : Expression) → Spells x e → First x l p r)
Told e l p (Ok None) = Legal e × (IsUtf8 l → IsCharBoundary l p → (x : Expression) → Spells x e → (q : ℕ) → p ≤ q → IsCharBoundary l q → NoneCounts (words x) l q)
