-- What follows a class, read a character at a time. Assumes nothing.
use Rattle.std.proofs.Common.{◌≡◌, ℕ, ◌+◌, ◌/◌, ◌<◌, ◌≤◌, Bool, true, false, eqb, List, [], ◌∷◌, ◌++◌, length, None, Some, Option, sym, refl, ap, ◌∙◌, ⊎_elim, length-append, arith}
use lib.Utf8.{encode, next}
use Rattle.std.proofs.lemmas.Bool.{cond-false, ne_eqb, cases_lt}
use Rattle.std.proofs.lemmas.Str.{encode_ascii}
use Rattle.chars.proofs.Wide.{two, three, four}
use Rattle.std.specs.declared.str.Chars.{Chars}
use Rattle.std.specs.Option.{MatchOption}
use Rattle.grammar.specs.Items.{shut_of}

other_byte : (b : ℕ) (bs : List ℕ) → (b ≡ 92 → ⊥) → (b ≡ 93 → ⊥) → shut_of false (b ∷ bs) ≡ shut_of false bs
other_byte b bs x y = cond-false (eqb b 92) _ _ (ne_eqb b 92 x) ∙ cond-false (eqb b 93) _ _ (ne_eqb b 93 y)

high_byte : (t : Bool) (b : ℕ) (bs : List ℕ) → 128 ≤ b → shut_of t (b ∷ bs) ≡ shut_of false bs
high_byte true b bs h = refl
high_byte false b bs h = other_byte b bs (λ e. omega arith) (λ e. omega arith)

next_passed : (c : ℕ) (bs : List ℕ) → shut_of false (next c ∷ bs) ≡ shut_of false bs
next_passed c bs = high_byte false (next c) bs (omega arith)

wide_passed : (t : Bool) (c : ℕ) (bs : List ℕ) → 128 ≤ c → shut_of t (encode c ++ bs) ≡ shut_of false bs
wide_passed t c bs a =
    let one_left : List ℕ = next c ∷ bs in
    let two_left : List ℕ = next (c / 64) ∷ one_left in
    let three_left : List ℕ = next (c / 4096) ∷ two_left in
    ⊎_elim
    (λ b. ap (λ cs. shut_of t (cs ++ bs)) (two c a b) ∙ high_byte t (192 + c / 64) one_left (omega arith) ∙ next_passed c bs)
    (λ b. ⊎_elim
    (λ d. ap (λ cs. shut_of t (cs ++ bs)) (three c b d) ∙ high_byte t (224 + c / 4096) two_left (omega arith)
    ∙ next_passed (c / 64) one_left ∙ next_passed c bs)
    (λ d. ap (λ cs. shut_of t (cs ++ bs)) (four c d) ∙ high_byte t (240 + c / 262144) three_left (omega arith)
    ∙ next_passed (c / 4096) two_left ∙ next_passed (c / 64) one_left ∙ next_passed c bs)
    (cases_lt c 65536))
    (cases_lt c 2048)

shut_nil : (t : Bool) → shut_of t [] ≡ []
shut_nil true = refl
shut_nil false = refl

-- the text ends
pub past_all : (t : Bool) (bytes : List ℕ) → length bytes ≡ 0 → shut_of t bytes ≡ bytes
past_all t [] h = shut_nil t
past_all t (b ∷ bs) h = absurd (omega arith)

-- a character has been read
module _ (bytes rest : List ℕ) (c : ℕ) (e : bytes ≡ encode c ++ rest) where
  ascii_at : (m : ℕ) → m < 128 → c ≡ m → (t : Bool) → shut_of t bytes ≡ shut_of t (m ∷ rest)
  ascii_at m low is t = ap (shut_of t) (e ∙ ap (λ (n : ℕ). encode n ++ rest) is ∙ ap (λ l. l ++ rest) (encode_ascii m low))

  wide_at : (t : Bool) → 128 ≤ c → shut_of t bytes ≡ shut_of false rest
  wide_at t high = ap (shut_of t) e ∙ wide_passed t c rest high

  pub past_backslash : c ≡ 92 → shut_of false bytes ≡ shut_of true rest
  past_backslash is = ascii_at 92 (omega arith) is false

  -- one that a backslash precedes
  pub past_escaped : shut_of true bytes ≡ shut_of false rest
  past_escaped = ⊎_elim (λ low. ascii_at c low refl true) (λ high. wide_at true high) (cases_lt c 128)

  pub past_other : (c ≡ 92 → ⊥) → (c ≡ 93 → ⊥) → shut_of false bytes ≡ shut_of false rest
  past_other x y = ⊎_elim (λ low. ascii_at c low refl false ∙ other_byte c rest x y) (λ high. wide_at false high) (cases_lt c 128)

  pub no_longer : length rest ≤ length bytes
  no_longer = omega (arith, ap length e, length-append (encode c) rest)

-- whatever stood behind the backslash has been read
pub past_next : (o : Option ℕ) (s t : Chars)
    → MatchOption o ((length s.rest.now ≡ 0) × (t ≡ s)) (λ c. s.rest.now ≡ encode c ++ t.rest.now)
    → (shut_of true s.rest.now ≡ shut_of false t.rest.now) × (length t.rest.now ≤ length s.rest.now)
past_next None s t h =
    let same = ap (λ u. u.rest.now) h.1 in
    (past_all true s.rest.now h.0 ∙ sym (past_all false s.rest.now h.0) ∙ ap (shut_of false) (sym same), omega (arith, ap length same))
past_next (Some c) s t h = (past_escaped s.rest.now t.rest.now c h, no_longer s.rest.now t.rest.now c h)
