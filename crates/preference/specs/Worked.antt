-- Worked examples of the meaning, computed by hand from the rules. Assumes nothing.
use Rattle.std.specs.Prelude.{◌≡◌, ℕ, List, [], ◌∷◌, ◌++◌, take, replicate, Some, None, codes, Option, Ok, Err}
use Rattle.matcher.specs.declared.answer.Span.{Span}
use Rattle.matcher.specs.Answers.{Answer, illegal}
use Rattle.matcher.specs.Regions.{span, spanning}
use Rattle.ways.specs.Meaning.{meaning}

-- a match, with group 0 and those that follow; the others are absent
abbrev groups : List (Option Span) → Answer
groups spans = Ok (Some (record { groups = take 16 (spans ++ replicate 16 None) }))

-- a match without groups of its own
abbrev from_to : ℕ → ℕ → Answer
from_to begin end = Ok (Some (spanning begin end))

-- which match is found: the earliest begin, then the first alternative, then the longer of the earlier repeats
abbrev pub Choices : Type 0
Choices =
    (meaning (codes "b|a") (codes "ab") 0 ≡ from_to 0 1)
    × (meaning (codes "a|ab") (codes "ab") 0 ≡ from_to 0 1)
    × (meaning (codes "ab|a") (codes "ab") 0 ≡ from_to 0 2)
    × (meaning (codes "a|") (codes "ba") 0 ≡ from_to 0 0)
    × (meaning [] (codes "ab") 1 ≡ from_to 1 1)
    × (meaning (codes "x+") (codes "yxxxy") 0 ≡ from_to 1 4)
    × (meaning (codes "x*") (codes "yx") 0 ≡ from_to 0 0)
    × (meaning (codes "x?") (codes "xx") 0 ≡ from_to 0 1)
    × (meaning (codes "a*ab") (codes "aaab") 0 ≡ from_to 0 4)
    × (meaning (codes "a+a+") (codes "a") 0 ≡ Ok None)
    × (meaning (codes "a") (codes "aa") 1 ≡ from_to 1 2)

-- where groups lie
abbrev pub Groups : Type 0
Groups =
    (meaning (codes "(\\d+) ([kg]+)") (codes "5 kg") 0 ≡ groups (Some (span 0 4) ∷ Some (span 0 1) ∷ Some (span 2 4) ∷ []))
    × (meaning (codes "(a)|(b)") (codes "b") 0 ≡ groups (Some (span 0 1) ∷ None ∷ Some (span 0 1) ∷ []))
    × (meaning (codes "((a)(b))") (codes "ab") 0 ≡ groups (Some (span 0 2) ∷ Some (span 0 2) ∷ Some (span 0 1) ∷ Some (span 1 2) ∷ []))
    × (meaning (codes "(a*)(a*)") (codes "aa") 0 ≡ groups (Some (span 0 2) ∷ Some (span 0 2) ∷ Some (span 2 2) ∷ []))
    × (meaning (codes "(a*)(a)") (codes "aa") 0 ≡ groups (Some (span 0 2) ∷ Some (span 0 1) ∷ Some (span 1 2) ∷ []))

-- `^` and `$`; 10 is the byte that ends a line
abbrev pub Ends : Type 0
Ends =
    (meaning (codes "^a") (codes "aa") 0 ≡ from_to 0 1)
    × (meaning (codes "^a") (codes "aa") 1 ≡ Ok None)
    × (meaning (codes "a$") (codes "aa") 0 ≡ from_to 1 2)
    × (meaning (codes "a$") (97 ∷ 97 ∷ 10 ∷ []) 0 ≡ from_to 1 2)
    × (meaning (codes "a$") (97 ∷ 10 ∷ 98 ∷ []) 0 ≡ Ok None)
    × (meaning (codes "a$") (97 ∷ 10 ∷ 10 ∷ []) 0 ≡ Ok None)
    × (meaning (codes "$") (97 ∷ 10 ∷ []) 2 ≡ from_to 2 2)

-- which characters are taken; 195 and 182 spell one character, and 10 is in `[^a]` and not in `.`
abbrev pub Characters : Type 0
Characters =
    (meaning (codes "[^a]") (97 ∷ 10 ∷ []) 0 ≡ from_to 1 2)
    × (meaning (codes ".") (10 ∷ 97 ∷ []) 0 ≡ from_to 1 2)
    × (meaning (codes ".") (195 ∷ 182 ∷ []) 0 ≡ from_to 0 2)
    × (meaning (195 ∷ 182 ∷ 43 ∷ []) (97 ∷ 195 ∷ 182 ∷ 195 ∷ 182 ∷ []) 0 ≡ from_to 1 5)
    × (meaning (codes "[^a]") (97 ∷ 195 ∷ 182 ∷ []) 0 ≡ from_to 1 3)
    × (meaning (codes "\\w\\s\\.") (codes "a b .") 0 ≡ from_to 2 5)
    × (meaning (codes "\\1") (codes "1") 0 ≡ Ok None)

-- a legal expression in a line that is not text, and from a place within a character; and one that is not legal
abbrev pub Others : Type 0
Others =
    (meaning (codes "a") (97 ∷ 255 ∷ []) 0 ≡ Ok None)
    × (meaning [] (195 ∷ 182 ∷ []) 1 ≡ Ok None)
    × (meaning (codes "(a|b)") (codes "a") 0 ≡ Err (illegal 2))
