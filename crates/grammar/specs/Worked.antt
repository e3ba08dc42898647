-- Worked examples of the definitions. Assumes nothing.
use Rattle.std.specs.Prelude.{◌≡◌, true, false, [], ◌∷◌, Some, None, codes}
use Rattle.chars.specs.declared.sets.Set.TheVariants.{Digits, Spaces}
use Rattle.grammar.specs.Grammar.{plain, escaped, one, range, every, char, wide, marked, set, class, once, maybe, many, some, takes, end, never, bar}
use Rattle.grammar.specs.Reader.{refusal}
use Rattle.grammar.specs.Parse.{part_at, items}
use Rattle.grammar.specs.Classes.{class_takes}
use Rattle.grammar.specs.declared.items.Times.TheVariants as t
use Rattle.grammar.specs.Places as s
use Rattle.grammar.specs.Places.{item_of}

-- where expressions are refused
abbrev pub Places : Type 0
Places =
    (refusal [] ≡ None)
    × (refusal (codes "*") ≡ Some 0)
    × (refusal (codes ")") ≡ Some 0)
    × (refusal (codes "a)") ≡ Some 1)
    × (refusal (codes "(a") ≡ Some 2)
    × (refusal (codes "(a|") ≡ Some 2)
    × (refusal (codes "(a|b") ≡ Some 2)
    × (refusal (codes "[b-a]") ≡ Some 3)
    × (refusal (codes "[a-a]") ≡ Some 3)
    × (refusal (codes "[\\~-\\") ≡ Some 4)
    × (refusal (91 ∷ 127 ∷ 45 ∷ []) ≡ Some 2)
    × (refusal (codes "[\\1") ≡ Some 2)
    × (refusal (codes "[\\d-") ≡ Some 3)
    × (refusal (codes "[]") ≡ Some 1)
    × (refusal (codes "[^]") ≡ Some 2)
    × (refusal (codes "\\q") ≡ Some 1)
    × (refusal (codes "a\\") ≡ Some 2)
    × (refusal (codes "\\1*") ≡ Some 2)
    × (refusal (codes "^*") ≡ Some 1)
    × (refusal (codes "a**") ≡ Some 2)
    × (refusal (226 ∷ 130 ∷ 97 ∷ []) ≡ Some 2)
    × (refusal (192 ∷ []) ≡ Some 0)
    × (refusal (224 ∷ 128 ∷ []) ≡ Some 1)
    × (refusal (237 ∷ 160 ∷ []) ≡ Some 1)
    × (refusal (244 ∷ 144 ∷ []) ≡ Some 1)
    × (refusal (codes "(((((((((((((((())))))))))))))))") ≡ Some 15)
    × (refusal (codes "((((((((((((((()))))))))))))))") ≡ None)
    × (refusal (codes "(\\d+) ?[kK]?g|salt$") ≡ None)
    × (refusal (codes "|(a+)[^\\-\\d0-9\\#-\\&]?$") ≡ None)

-- what expressions are written of
abbrev pub Parts : Type 0
Parts =
    (part_at (codes "a*b") ≡ (takes (char 97) many, codes "b"))
    × (part_at (codes "\\.b") ≡ (takes (marked 46) once, codes "b"))
    × (part_at (codes "\\d+") ≡ (takes (set Digits) some, []))
    × (part_at (codes "[^\\]a]?$") ≡ (takes (class true (one (escaped 93)) (one (plain 97) ∷ [])) maybe, codes "$"))
    × (part_at (226 ∷ 130 ∷ 172 ∷ 63 ∷ 97 ∷ []) ≡ (takes (wide 8364) maybe, codes "a"))
    × (part_at (codes "\\1a") ≡ (never 49, codes "a"))
    × (items (codes "[b-d\\s]|$") ≡ takes (class false (range (plain 98) (plain 100)) (every Spaces ∷ [])) once ∷ bar ∷ end ∷ [])

-- what is read where bytes begin, of a legal expression or not
abbrev pub Tokens : Type 0
Tokens =
    (item_of (codes "a*b") ≡ (s.take (s.char 97) t.Many, codes "b"))
    × (item_of (codes "\\.b") ≡ (s.take (s.char 46) t.Once, codes "b"))
    × (item_of (codes "\\d+") ≡ (s.take (s.set Digits) t.Some, []))
    × (item_of (codes "[^\\]a]?$") ≡ (s.take (s.class true (codes "\\]a]?$")) t.Maybe, codes "$"))
    × (item_of (codes "[a") ≡ (s.take (s.class false (codes "a")) t.Once, []))
    × (item_of (226 ∷ 130 ∷ 172 ∷ 63 ∷ 97 ∷ []) ≡ (s.take (s.char 8364) t.Maybe, codes "a"))
    × (item_of (226 ∷ 130 ∷ 97 ∷ 63 ∷ 97 ∷ []) ≡ (s.take (s.char 65533) t.Maybe, codes "a"))
    × (item_of (codes "\\1a") ≡ (s.never, codes "a"))
    × (item_of (codes "\\") ≡ (s.never, []))
    × (item_of (codes "*a") ≡ (s.never, codes "a"))
    × (item_of (255 ∷ 97 ∷ []) ≡ (s.never, codes "a"))

-- which characters a class takes, from the bytes after `[`
abbrev pub Memberships : Type 0
Memberships =
    (class_takes (codes "a-c]d") 97 ≡ true)
    × (class_takes (codes "a-c]d") 99 ≡ true)
    × (class_takes (codes "a-c]d") 100 ≡ false)
    × (class_takes (codes "a\\-c]") 45 ≡ true)
    × (class_takes (codes "a\\-c]") 98 ≡ false)
    × (class_takes (codes "\\]x]") 120 ≡ true)
    × (class_takes (codes "\\#-\\&]") 37 ≡ true)
    × (class_takes (codes "\\d_]") 55 ≡ true)
    × (class_takes (codes "\\d_]") 100 ≡ false)
    × (class_takes (codes "\\w]") 228 ≡ false)
    × (class_takes (codes "^a-z]") 98 ≡ false)
    × (class_takes (codes "^a-z]") 10 ≡ true)
    × (class_takes (codes "^a-z]") 8364 ≡ true)
