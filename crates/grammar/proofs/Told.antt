-- What the kind of a byte tells of it, and the kinds of some bytes. Assumes nothing.
use Rattle.std.proofs.Common.{◌≡◌, ℕ, ◌<◌, ◌≤◌, true, false, not, ◌||◌, eqb, ltb, ◌⊎◌, Some, None, Option, sym, refl, ◌∙◌, subst, inl, inr, ⊎_elim, arith}
use Rattle.std.specs.Option.{option_map}
use Rattle.std.proofs.lemmas.Bool.{cond_both, cond-true, cond-false, eqb-true, ne_eqb, ltb-true, and_parts, or_cases}
use Rattle.std.proofs.lemmas.Bool.Decides.{nat_tests}
use Rattle.chars.specs.declared.leads.Owed.{Owed}
use Rattle.chars.specs.Sets.{digit}
use Rattle.chars.specs.Marks.{mark, unmarked, bare}
use Rattle.chars.specs.Leads.{lead_of}
use Rattle.chars.proofs.Wide.{InOrder, in_order}
use Rattle.chars.specs.declared.sets.Set.{Set}
use Rattle.chars.specs.declared.sets.Set.TheVariants.{Digits, Words, Spaces}
use Rattle.grammar.specs.declared.bytes.Kind.{Kind}
use Rattle.grammar.specs.declared.bytes.Kind.TheVariants as k
use Rattle.grammar.specs.declared.bytes.Inside.{Inside}
use Rattle.grammar.specs.declared.bytes.Inside.TheVariants as i
use Rattle.grammar.specs.declared.bytes.Escaped.{Escaped}
use Rattle.grammar.specs.declared.bytes.Escaped.TheVariants as e
use Rattle.grammar.specs.Bytes.{led_by, leads, kind_of, inside_of, set_of, escaped_of}
use Rattle.grammar.specs.Grammar.{letter}

abbrev pub Told : Option Kind → ℕ → Type 0
Told (Some k.Bare) b = bare b ≡ true
Told (Some (k.Lead o)) b = (Some o ≡ lead_of b) × (o.low ≤ o.high)
Told (Some k.Bar) b = b ≡ 124
Told (Some k.Open) b = b ≡ 40
Told (Some k.Close) b = b ≡ 41
Told (Some k.Start) b = b ≡ 94
Told (Some k.End) b = b ≡ 36
Told (Some k.Dot) b = b ≡ 46
Told (Some k.Repeat) b = (b ≡ 63) ⊎ ((b ≡ 42) ⊎ (b ≡ 43))
Told (Some k.Backslash) b = b ≡ 92
Told (Some k.Bracket) b = b ≡ 91
Told None b = Unit {0}

lead_told : (b : ℕ) (o : Option Owed) → o ≡ lead_of b → InOrder o → Told (led_by o) b
lead_told b None e h = tt
lead_told b (Some o) e h = (e, h)

or3 : (b x y z : ℕ) → (eqb b x || (eqb b y || eqb b z)) ≡ true → (b ≡ x) ⊎ ((b ≡ y) ⊎ (b ≡ z))
or3 b x y z h =
    ⊎_elim (λ e. inl (eqb-true b x e))
    (λ r. inr (⊎_elim (λ e. inl (eqb-true b y e)) (λ e. inr (eqb-true b z e)) (or_cases (eqb b y) (eqb b z) r))) (or_cases (eqb b x) (eqb b y || eqb b z) h)

pub told : (b : ℕ) → Told (kind_of b) b
told b =
    cond_both (bare b) (Some k.Bare) _ (λ q. Told q b) (λ e. e)
    (λ _. cond_both (eqb b 124) (Some k.Bar) _ (λ q. Told q b) (λ e. eqb-true b 124 e)
    (λ _. cond_both (eqb b 40) (Some k.Open) _ (λ q. Told q b) (λ e. eqb-true b 40 e)
    (λ _. cond_both (eqb b 41) (Some k.Close) _ (λ q. Told q b) (λ e. eqb-true b 41 e)
    (λ _. cond_both (eqb b 94) (Some k.Start) _ (λ q. Told q b) (λ e. eqb-true b 94 e)
    (λ _. cond_both (eqb b 36) (Some k.End) _ (λ q. Told q b) (λ e. eqb-true b 36 e)
    (λ _. cond_both (eqb b 46) (Some k.Dot) _ (λ q. Told q b) (λ e. eqb-true b 46 e)
    (λ _. cond_both (eqb b 63 || (eqb b 42 || eqb b 43)) (Some k.Repeat) _ (λ q. Told q b) (λ e. or3 b 63 42 43 e)
    (λ _. cond_both (eqb b 92) (Some k.Backslash) _ (λ q. Told q b) (λ e. eqb-true b 92 e)
    (λ _. cond_both (eqb b 91) (Some k.Bracket) _ (λ q. Told q b) (λ e. eqb-true b 91 e)
    (λ _. lead_told b (lead_of b) refl (in_order b)))))))))))

abbrev pub ToldIn : Option Inside → ℕ → Type 0
ToldIn (Some i.Bare) b = unmarked b ≡ true
ToldIn (Some i.Backslash) b = b ≡ 92
ToldIn (Some i.Shut) b = b ≡ 93
ToldIn (Some i.Dash) b = b ≡ 45
ToldIn None b = Unit {0}

pub told_in : (b : ℕ) → ToldIn (inside_of b) b
told_in b =
    cond_both (unmarked b) (Some i.Bare) _ (λ q. ToldIn q b) (λ e. e)
    (λ _. cond_both (eqb b 92) (Some i.Backslash) _ (λ q. ToldIn q b) (λ e. eqb-true b 92 e)
    (λ _. cond_both (eqb b 93) (Some i.Shut) _ (λ q. ToldIn q b) (λ e. eqb-true b 93 e)
    (λ _. cond_both (eqb b 45) (Some i.Dash) None (λ q. ToldIn q b) (λ e. eqb-true b 45 e) (λ _. tt))))

abbrev pub ToldAfter : Option Escaped → ℕ → Type 0
ToldAfter (Some e.Mark) b = mark b ≡ true
ToldAfter (Some e.Digit) b = digit b ≡ true
ToldAfter (Some (e.Set s)) b = letter s ≡ b
ToldAfter None b = Unit {0}

pub told_set : (b : ℕ) → ToldAfter (option_map e.Set (set_of b)) b
told_set b =
    cond_both (eqb b 100) (Some Digits) _ (λ q. ToldAfter (option_map e.Set q) b) (λ e. sym (eqb-true b 100 e))
    (λ _. cond_both (eqb b 119) (Some Words) _ (λ q. ToldAfter (option_map e.Set q) b) (λ e. sym (eqb-true b 119 e))
    (λ _. cond_both (eqb b 115) (Some Spaces) None (λ q. ToldAfter (option_map e.Set q) b) (λ e. sym (eqb-true b 115 e)) (λ _. tt)))

pub told_after : (b : ℕ) → ToldAfter (escaped_of b) b
told_after b =
    cond_both (mark b) (Some e.Mark) _ (λ q. ToldAfter q b) (λ e. e)
    (λ _. cond_both (digit b) (Some e.Digit) _ (λ q. ToldAfter q b) (λ e. e) (λ _. told_set b))

pub mark_low : (b : ℕ) → mark b ≡ true → b ≤ 126
mark_low b h = grind (arith, nat_tests)

pub unmarked_low : (b : ℕ) → unmarked b ≡ true → b < 128
unmarked_low b h = ltb-true b 128 (and_parts (ltb b 128) (not (mark b)) h).0

digit_unmarked : (b : ℕ) → digit b ≡ true → mark b ≡ false
digit_unmarked b h = grind (arith, nat_tests)

-- ===== the kinds of some bytes
pub is_bare : (b : ℕ) → bare b ≡ true → kind_of b ≡ Some k.Bare
is_bare b h = cond-true (bare b) _ _ h

pub in_bare : (b : ℕ) → unmarked b ≡ true → inside_of b ≡ Some i.Bare
in_bare b h = cond-true (unmarked b) _ _ h

pub is_mark : (b : ℕ) → mark b ≡ true → escaped_of b ≡ Some e.Mark
is_mark b h = cond-true (mark b) _ _ h

pub is_digit : (b : ℕ) → digit b ≡ true → escaped_of b ≡ Some e.Digit
is_digit b h = cond-false (mark b) _ _ (digit_unmarked b h) ∙ cond-true (digit b) _ _ h

pub is_set : (s : Set) → escaped_of (letter s) ≡ Some (e.Set s)
is_set Digits = refl
is_set Words = refl
is_set Spaces = refl

pub letter_set : (s : Set) → set_of (letter s) ≡ Some s
letter_set Digits = refl
letter_set Words = refl
letter_set Spaces = refl

pub is_lead : (b : ℕ) → 128 ≤ b → kind_of b ≡ leads b
is_lead b h =
    let low : bare b ≡ false = grind (arith, nat_tests) in
    let again : (eqb b 63 || (eqb b 42 || eqb b 43)) ≡ false = grind (arith, nat_tests) in
    cond-false (bare b) _ _ low
    ∙ cond-false (eqb b 124) _ _ (ne_eqb b 124 (λ e. omega arith))
    ∙ cond-false (eqb b 40) _ _ (ne_eqb b 40 (λ e. omega arith))
    ∙ cond-false (eqb b 41) _ _ (ne_eqb b 41 (λ e. omega arith))
    ∙ cond-false (eqb b 94) _ _ (ne_eqb b 94 (λ e. omega arith))
    ∙ cond-false (eqb b 36) _ _ (ne_eqb b 36 (λ e. omega arith))
    ∙ cond-false (eqb b 46) _ _ (ne_eqb b 46 (λ e. omega arith))
    ∙ cond-false (eqb b 63 || (eqb b 42 || eqb b 43)) _ _ again
    ∙ cond-false (eqb b 92) _ _ (ne_eqb b 92 (λ e. omega arith))
    ∙ cond-false (eqb b 91) _ _ (ne_eqb b 91 (λ e. omega arith))

-- a character that stands bare is unlike one that may not
pub unlike : (m c : ℕ) → unmarked m ≡ false → unmarked c ≡ true → eqb c m ≡ false
unlike m c out h = ne_eqb c m (λ e. let u : unmarked m ≡ true = subst (λ (y : ℕ). unmarked y ≡ true) e h in let z : ◌≡◌ {A = ℕ} 0 1 = cc in omega arith)

pub unlike_bare : (m c : ℕ) → bare m ≡ false → bare c ≡ true → eqb c m ≡ false
unlike_bare m c out h = ne_eqb c m (λ e. let u : bare m ≡ true = subst (λ (y : ℕ). bare y ≡ true) e h in let z : ◌≡◌ {A = ℕ} 0 1 = cc in omega arith)
