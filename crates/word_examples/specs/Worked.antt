-- Worked examples of the definitions. Assumes nothing.
use Rattle.std.specs.Prelude.{◌≡◌, [], ◌∷◌, Some, None, Ok, Err, codes}
use Rattle.matcher.specs.Answers.{illegal}
use Rattle.matcher.specs.Regions.{spanning}
use Rattle.words.specs.Reader.{refusal}
use Rattle.words.specs.Meaning.{meaning}

-- where expressions are refused
abbrev pub Places : Type 0
Places =
    (refusal [] ≡ Some 0)
    × (refusal (codes "|") ≡ Some 0)
    × (refusal (codes "a|") ≡ Some 2)
    × (refusal (codes "a||") ≡ Some 2)
    × (refusal (codes "a.") ≡ Some 1)
    × (refusal (codes "\\d") ≡ Some 1)
    × (refusal (codes "a\\") ≡ Some 2)
    × (refusal (226 ∷ 130 ∷ 97 ∷ []) ≡ Some 2)
    × (refusal (192 ∷ []) ≡ Some 0)
    × (refusal (224 ∷ 128 ∷ []) ≡ Some 1)
    × (refusal (237 ∷ 160 ∷ []) ≡ Some 1)
    × (refusal (244 ∷ 144 ∷ []) ≡ Some 1)
    × (refusal (codes "rye-flour|\\$|a\\1") ≡ None)

-- what searches answer
abbrev pub Answers : Type 0
Answers =
    (meaning (codes "salt") (codes "g SaLt") 0 ≡ Ok (Some (spanning 2 6)))
    × (meaning (codes "salt") (codes "salted") 0 ≡ Ok None)
    × (meaning (codes "rye|rye-bun") (codes "rye-bun") 0 ≡ Ok (Some (spanning 0 3)))
    × (meaning (codes "a\\1|b") (codes "a1 b") 0 ≡ Ok (Some (spanning 3 4)))
    × (meaning (195 ∷ 182 ∷ 108 ∷ []) (32 ∷ 195 ∷ 182 ∷ 76 ∷ []) 0 ≡ Ok (Some (spanning 1 4)))
    × (meaning (codes "a.") (97 ∷ 255 ∷ []) 5 ≡ Err (illegal 1))
