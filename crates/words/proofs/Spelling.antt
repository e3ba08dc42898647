-- The words that the bytes of an expression spell are the words that were written. Assumes nothing.
use Rattle.std.specs.Prelude.{◌≡◌, ℕ, ◌<◌, ◌≤◌, true, false, List, [], ◌∷◌, ◌++◌, map, Some, None, ◌==◌, ◌≢◌, refl}
use Rattle.std.proofs.Common.{sym, ap, subst, ◌∙◌, ⊎_elim, arith}
use Rattle.std.proofs.Math.Utf8.{encode}
use Rattle.std.specs.List.{AllByRecursion}
use Rattle.std.proofs.lemmas.List.{append-nil}
use Rattle.std.proofs.lemmas.Bool.{cond-true, cond-false, ne_eqb, cases_lt}
use Rattle.std.proofs.lemmas.Bool.Decides.{nat_tests}
use Rattle.chars.specs.Sets.{digit}
use Rattle.chars.specs.Marks.{mark, bare}
use Rattle.chars.proofs.Wide.{two, three, four}
use Rattle.words.specs.Grammar.{Sign, plain, wide, marked, numbered, Word, Expression, signs, words, sign, signed, barred, GoodSign, GoodSigns, GoodWords, Spells}
use Rattle.words.specs.Meaning.{Letters, onto, read_from, words_of}

-- what a sign asks of the line
abbrev pub letters : Sign → Letters
letters (plain c) = Some c ∷ []
letters (wide c) = map Some (encode c)
letters (marked c) = Some c ∷ []
letters (numbered d) = None ∷ []

abbrev pub spelled : List Sign → Letters
spelled [] = []
spelled (s ∷ ss) = letters s ++ spelled ss

abbrev onto_all : Letters → List Letters → List Letters
onto_all [] ws = ws
onto_all (b ∷ bs) ws = onto b (onto_all bs ws)

onto_append : (xs ys : Letters) (ws : List Letters) → onto_all (xs ++ ys) ws ≡ onto_all xs (onto_all ys ws)
onto_append [] ys ws = refl
onto_append (x ∷ xs) ys ws = ap (onto x) (onto_append xs ys ws)

onto_first : (xs : Letters) (w : Letters) (ws : List Letters) → onto_all xs (w ∷ ws) ≡ (xs ++ w) ∷ ws
onto_first [] w ws = refl
onto_first (x ∷ xs) w ws = ap (onto x) (onto_first xs w ws)

-- a byte that is no backslash and no bar
read_byte : (b : ℕ) (bs : List ℕ) → (b ≢ 92) → (b ≢ 124) → read_from false (b ∷ bs) ≡ onto (Some b) (read_from false bs)
read_byte b bs m n = cond-false (b == 92) _ _ (ne_eqb b 92 m) ∙ cond-false (b == 124) _ _ (ne_eqb b 124 n)

read_high : (xs bs : List ℕ) → AllByRecursion (λ x. 128 ≤ x) xs → read_from false (xs ++ bs) ≡ onto_all (map Some xs) (read_from false bs)
read_high [] bs h = refl
read_high (x ∷ xs) bs h = read_byte x (xs ++ bs) (λ e. omega (arith, h.0)) (λ e. omega (arith, h.0)) ∙ ap (onto (Some x)) (read_high xs bs h.1)

pub encode_high : (c : ℕ) → 128 ≤ c → AllByRecursion (λ x. 128 ≤ x) (encode c)
encode_high c h =
    ⊎_elim (λ a. subst (AllByRecursion (λ x. 128 ≤ x)) (sym (two c h a)) (omega arith, (omega arith, tt)))
    (λ a. ⊎_elim (λ b. subst (AllByRecursion (λ x. 128 ≤ x)) (sym (three c a b)) (omega arith, (omega arith, (omega arith, tt))))
    (λ b. subst (AllByRecursion (λ x. 128 ≤ x)) (sym (four c b)) (omega arith, (omega arith, (omega arith, (omega arith, tt))))) (cases_lt c 65536)) (cases_lt c 2048)

mark_digit : (c : ℕ) → mark c ≡ true → digit c ≡ false
mark_digit c h = grind (arith, nat_tests)

pub bare_low : (c : ℕ) → bare c ≡ true → c < 128
bare_low c h = grind (arith, nat_tests)

pub mark_low : (c : ℕ) → mark c ≡ true → c < 128
mark_low c h = grind (arith, nat_tests)

bare_apart : (c m : ℕ) → bare m ≡ false → bare c ≡ true → c ≢ m
bare_apart c m n h e = let u : bare m ≡ true = subst (λ (y : ℕ). bare y ≡ true) e h in let z : ◌≡◌ {A = ℕ} 0 1 = cc in omega arith

read_sign : (s : Sign) (bs : List ℕ) → GoodSign s → read_from false (sign s bs) ≡ onto_all (letters s) (read_from false bs)
read_sign (plain c) bs g = read_byte c bs (bare_apart c 92 refl g) (bare_apart c 124 refl g)
read_sign (wide c) bs g = read_high (encode c) bs (encode_high c g.0)
read_sign (marked c) bs g = ap (λ b. onto b (read_from false bs)) (cond-false (digit c) None (Some c) (mark_digit c g))
read_sign (numbered d) bs g = ap (λ b. onto b (read_from false bs)) (cond-true (digit d) None (Some d) g)

read_signs : (ss : List Sign) (bs : List ℕ) → GoodSigns ss → read_from false (signed ss bs) ≡ onto_all (spelled ss) (read_from false bs)
read_signs [] bs g = refl
read_signs (s ∷ ss) bs g =
    read_sign s (signed ss bs) g.0 ∙ ap (onto_all (letters s)) (read_signs ss bs g.1) ∙ sym (onto_append (letters s) (spelled ss) (read_from false bs))

abbrev pub spelled_word : Word → Letters
spelled_word w = spelled (signs w)

read_words : (ss : List Sign) (ws : List Word) → GoodSigns ss → GoodWords ws → read_from false (signed ss (barred ws)) ≡ spelled ss ∷ map spelled_word ws
read_words ss [] g k = read_signs ss [] g ∙ onto_first (spelled ss) [] [] ∙ ap (λ w. w ∷ []) (append-nil (spelled ss))
read_words ss (w ∷ ws) g k =
    read_signs ss (barred (w ∷ ws)) g
    ∙ ap (λ l. onto_all (spelled ss) ([] ∷ l)) (read_words (signs w) ws k.0 k.1)
    ∙ onto_first (spelled ss) [] (map spelled_word (w ∷ ws))
    ∙ ap (λ l. l ∷ map spelled_word (w ∷ ws)) (append-nil (spelled ss))

pub read_written : (x : Expression) (e : List ℕ) → Spells x e → words_of e ≡ map spelled_word (words x)
read_written x e s = ap words_of (sym s.is) ∙ read_words (signs x.first) x.others s.good.0 s.good.1
