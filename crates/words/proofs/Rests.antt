-- What may follow in each state of the reader, one byte on; and some end that may. Assumes nothing.
use Rattle.std.specs.Prelude.{◌≡◌, ℕ, zero, suc, ◌≤◌, true, false, ◌||◌, ◌⊎◌, List, [], ◌∷◌, ◌++◌, length, Some, None, Option, ◌==◌, ◌≢◌, nat_le, refl}
use Rattle.std.proofs.Common.{sym, ap, subst, ◌∙◌, inl, inr, ⊎_elim, arith}
use Rattle.std.proofs.Math.Utf8.{encode}
use Rattle.std.proofs.lemmas.Bool.{cond_both, cond-true, cond-false, eqb-true, ne_eqb, leb-true, le-leb, and_parts, and_from, or_cases, or_left, or_right, false≢true}
use Rattle.std.proofs.lemmas.Bool.Decides.{nat_tests}
use Rattle.chars.specs.declared.leads.Owed.{Owed}
use Rattle.chars.specs.Sets.{between, digit}
use Rattle.chars.specs.Marks.{mark, bare}
use Rattle.chars.specs.Leads.{lead_of}
use Rattle.chars.proofs.Wide.{Owes, Following, Begun, begun, whole, InOrder, in_order}
use Rattle.matcher.specs.Refusals.{Judged}
use Rattle.matcher.proofs.Longest.{From, Kept, Next, judged}
use Rattle.words.specs.declared.reader.State.{State}
use Rattle.words.specs.declared.reader.State.TheVariants.{Empty, Filled, Escape, Inside}
use Rattle.words.specs.Grammar.{Sign, plain, wide, marked, numbered, Word, Expression, signs, words, sign, signed, barred, GoodSign, GoodSigns, GoodWords, Legal}
use Rattle.words.specs.Reader.{lead, owing, next, done, refusal}
use Rattle.words.specs.Reader.{begun as begun_by}

-- the rest of a word, and more words
abbrev pub After : List ℕ → Type 0
After bs = (ss : List Sign) × (ws : List Word) × GoodSigns ss × GoodWords ws × (signed ss (barred ws) ≡ bs)

abbrev pub Escaping : List ℕ → Type 0
Escaping [] = ⊥
Escaping (b ∷ cs) = ((mark b ≡ true) ⊎ (digit b ≡ true)) × After cs

abbrev pub Rest : State → List ℕ → Type 0
Rest Empty bs = Legal bs
Rest Filled bs = After bs
Rest Escape bs = Escaping bs
Rest (Inside o) bs = Owes o.more o.low o.high After bs

-- what holds of the states that are reached
abbrev pub Sound : State → Type 0
Sound Empty = Unit {0}
Sound Filled = Unit {0}
Sound Escape = Unit {0}
Sound (Inside o) = o.low ≤ o.high

-- one sign, and what follows it
abbrev Headed : List ℕ → Type 0
Headed bs = (s : Sign) × (cs : List ℕ) × GoodSign s × After cs × (sign s cs ≡ bs)

-- ===== some end that may follow
owed_end : (n lo hi : ℕ) → lo ≤ hi → (t : List ℕ) × Owes n lo hi After t
owed_end zero lo hi h = (lo ∷ [], (omega arith, h, ([], [], tt, tt, refl)))
owed_end (suc n) lo hi h = let r = owed_end n 128 191 (omega arith) in (lo ∷ r.0, (omega arith, h, r.1))

alive : (s : State) → Sound s → (t : List ℕ) × Rest s t
alive Empty g =
    let x : Expression = record { first = record { head = plain 97; tail = [] }; others = [] } in
    (97 ∷ [], (x, record { good = ((refl, tt), tt); is = refl }))
alive Filled g = ([], ([], [], tt, tt, refl))
alive Escape g = (46 ∷ [], (inl refl, ([], [], tt, tt, refl)))
alive (Inside o) g = owed_end o.more o.low o.high g

-- ===== the states stay sound
lead_sound : (o : Option Owed) → InOrder o → Kept Sound (lead o)
lead_sound None h = tt
lead_sound (Some o) h = h

begun_sound : (b : ℕ) → Kept Sound (begun_by b)
begun_sound b = cond_both (bare b) _ _ (Kept Sound) (λ _. tt) (λ _. cond_both (b == 92) _ _ (Kept Sound) (λ _. tt) (λ _. lead_sound (lead_of b) (in_order b)))

owing_sound : (n : ℕ) → Sound (owing n)
owing_sound zero = tt
owing_sound (suc n) = omega arith

keeps : (s : State) → Sound s → (b : ℕ) → Kept Sound (next s b)
keeps Empty g b = begun_sound b
keeps Filled g b = cond_both (b == 124) _ _ (Kept Sound) (λ _. tt) (λ _. begun_sound b)
keeps Escape g b = cond_both (mark b || digit b) _ _ (Kept Sound) (λ _. tt) (λ _. tt)
keeps (Inside o) g b = cond_both (between o.low o.high b) _ _ (Kept Sound) (λ _. owing_sound o.more) (λ _. tt)

-- ===== onward: from the state before a byte to the state after it
lead_to : (o : Option Owed) (bs : List ℕ) → Following After o bs → From Rest (lead o) bs
lead_to None bs h = h
lead_to (Some o) bs h = h

high_begins : (b : ℕ) → 128 ≤ b → begun_by b ≡ lead (lead_of b)
high_begins b h =
    let low : bare b ≡ false = grind (arith, nat_tests) in
    cond-false (bare b) _ _ low ∙ cond-false (b == 92) _ _ (ne_eqb b 92 (λ e. omega arith))

wide_on : (bs : List ℕ) → Begun After bs → (b : ℕ) (cs : List ℕ) → bs ≡ b ∷ cs → From Rest (begun_by b) cs
wide_on [] h b cs e = absurd h
wide_on (x ∷ xs) h b cs e =
    let same : x ≡ b = cc in
    let rest : xs ≡ cs = cc in
    subst (λ (y : ℕ). From Rest (begun_by y) cs) same (subst (λ (ys : List ℕ). From Rest (begun_by x) ys) rest
    (subst (λ o. From Rest o xs) (sym (high_begins x h.0)) (lead_to (lead_of x) xs h.1)))

head_on : (s : Sign) (cs : List ℕ) → GoodSign s → After cs → (b : ℕ) (bs : List ℕ) → sign s cs ≡ b ∷ bs → From Rest (begun_by b) bs
head_on (plain c) cs g h b bs e =
    let same : c ≡ b = cc in
    let rest : cs ≡ bs = cc in
    subst (λ (y : ℕ). From Rest (begun_by y) bs) same (subst (λ o. From Rest o bs) (sym (cond-true (bare c) _ _ g)) (subst After rest h))
head_on (wide c) cs g h b bs e = wide_on (encode c ++ cs) (begun After c g.0 g.1 cs h) b bs e
head_on (marked c) cs g h b bs e =
    let same : 92 ≡ b = cc in
    let rest : (c ∷ cs) ≡ bs = cc in
    subst (λ (y : ℕ). From Rest (begun_by y) bs) same (subst Escaping rest (inl g, h))
head_on (numbered d) cs g h b bs e =
    let same : 92 ≡ b = cc in
    let rest : (d ∷ cs) ≡ bs = cc in
    subst (λ (y : ℕ). From Rest (begun_by y) bs) same (subst Escaping rest (inr g, h))

-- no sign begins with a bar
no_bar : (b : ℕ) (bs : List ℕ) → From Rest (begun_by b) bs → (b == 124) ≡ false
no_bar b bs h = ne_eqb b 124 (λ e. subst (λ (y : ℕ). From Rest (begun_by y) bs) e h)

sign_filled : (s : Sign) (cs : List ℕ) → GoodSign s → After cs → sign s cs ≢ []
sign_filled (plain c) cs g h e = let z = ap length e in omega arith
sign_filled (wide c) cs g h e = subst (Begun After) e (begun After c g.0 g.1 cs h)
sign_filled (marked c) cs g h e = let z = ap length e in omega arith
sign_filled (numbered d) cs g h e = let z = ap length e in omega arith

legal_after : (x : Expression) → GoodWords (words x) → After (signed x.first.tail (barred x.others))
legal_after x g = (x.first.tail, x.others, g.0.1, g.1, refl)

after_on : (ss : List Sign) (ws : List Word) → GoodSigns ss → GoodWords ws → (bs : List ℕ) → signed ss (barred ws) ≡ bs → Next next done Rest Filled bs
after_on [] [] g k [] e = refl
after_on [] [] g k (b ∷ bs) e = let z = ap length e in absurd (omega arith)
after_on [] (w ∷ ws) g k [] e = let z = ap length e in absurd (omega arith)
after_on [] (w ∷ ws) g k (b ∷ bs) e =
    let same : 124 ≡ b = cc in
    let rest : signed (signs w) (barred ws) ≡ bs = cc in
    let x : Expression = record { first = w; others = ws } in
    subst (λ (y : ℕ). From Rest (next Filled y) bs) same (x, record { good = k; is = rest })
after_on (s ∷ ss) ws g k [] e = absurd (sign_filled s (signed ss (barred ws)) g.0 (ss, ws, g.1, k, refl) e)
after_on (s ∷ ss) ws g k (b ∷ bs) e =
    let h = head_on s (signed ss (barred ws)) g.0 (ss, ws, g.1, k, refl) b bs e in
    subst (λ o. From Rest o bs) (sym (cond-false (b == 124) _ _ (no_bar b bs h))) h

owes_on : (n lo hi : ℕ) (b : ℕ) (bs : List ℕ) → Owes n lo hi After (b ∷ bs) → (lo ≤ b) × (b ≤ hi) × Rest (owing n) bs
owes_on zero lo hi b bs h = h
owes_on (suc n) lo hi b bs h = h

owes_none : (n lo hi : ℕ) → Owes n lo hi After [] → ⊥
owes_none zero lo hi h = h
owes_none (suc n) lo hi h = h

unfolds : (s : State) (bs : List ℕ) → Rest s bs → Next next done Rest s bs
unfolds Empty [] h = absurd (sign_filled h.0.first.head _ h.1.good.0.0 (legal_after h.0 h.1.good) h.1.is)
unfolds Empty (b ∷ bs) h = head_on h.0.first.head _ h.1.good.0.0 (legal_after h.0 h.1.good) b bs h.1.is
unfolds Filled bs h = after_on h.0 h.1 h.2 h.3 bs h.4
unfolds Escape [] h = absurd h
unfolds Escape (b ∷ bs) h =
    subst (λ o. From Rest o bs) (sym (cond-true (mark b || digit b) (Some Filled) None (⊎_elim (λ m. or_left (mark b) (digit b) m) (λ d. or_right (mark b) (digit b) d) h.0))) h.1
unfolds (Inside o) [] h = absurd (owes_none o.more o.low o.high h)
unfolds (Inside o) (b ∷ bs) h =
    let r = owes_on o.more o.low o.high b bs h in
    subst (λ q. From Rest q bs) (sym (cond-true (between o.low o.high b) (Some (owing o.more)) None (and_from (nat_le o.low b) (nat_le b o.high) (le-leb _ _ r.0) (le-leb _ _ r.1)))) r.2

-- ===== back: from the state after a byte to the state before it
lead_back : (o : Option Owed) (bs : List ℕ) → From Rest (lead o) bs → Following After o bs
lead_back None bs h = h
lead_back (Some o) bs h = h

escaped_back : (bs : List ℕ) → Escaping bs → Headed (92 ∷ bs)
escaped_back [] h = absurd h
escaped_back (c ∷ cs) h = ⊎_elim (λ m. (marked c, cs, m, h.1, refl)) (λ d. (numbered c, cs, d, h.1, refl)) h.0

head_back : (b : ℕ) (bs : List ℕ) → From Rest (begun_by b) bs → Headed (b ∷ bs)
head_back b bs =
    cond_both (bare b) _ _ (λ o. From Rest o bs → Headed (b ∷ bs)) (λ g h. (plain b, bs, g, h, refl))
    (λ _. cond_both (b == 92) _ _ (λ o. From Rest o bs → Headed (b ∷ bs)) (λ e h. subst (λ (y : ℕ). Headed (y ∷ bs)) (sym (eqb-true b 92 e)) (escaped_back bs h))
    (λ _ h. let w = whole After b bs (lead_back (lead_of b) bs h) in (wide w.0, w.1, (w.2, w.3), w.4, w.5)))

headed_legal : (bs : List ℕ) → Headed bs → Legal bs
headed_legal bs h =
    let r = h.3 in
    let x : Expression = record { first = record { head = h.0; tail = r.0 }; others = r.1 } in
    (x, record { good = ((h.2, r.2), r.3); is = ap (sign h.0) r.4 ∙ h.4 })

headed_after : (bs : List ℕ) → Headed bs → After bs
headed_after bs h = let r = h.3 in (h.0 ∷ r.0, r.1, (h.2, r.2), r.3, ap (sign h.0) r.4 ∙ h.4)

bar_after : (b : ℕ) (bs : List ℕ) → b ≡ 124 → Legal bs → After (b ∷ bs)
bar_after b bs e h = ([], words h.0, tt, h.1.good, λ i. sym e i ∷ h.1.is i)

owes_back : (n lo hi b : ℕ) (bs : List ℕ) → lo ≤ b → b ≤ hi → Rest (owing n) bs → Owes n lo hi After (b ∷ bs)
owes_back zero lo hi b bs p q h = (p, q, h)
owes_back (suc n) lo hi b bs p q h = (p, q, h)

folds : (s : State) (bs : List ℕ) → Next next done Rest s bs → Rest s bs
folds Empty [] h = absurd (false≢true h)
folds Empty (b ∷ bs) h = headed_legal (b ∷ bs) (head_back b bs h)
folds Filled [] h = ([], [], tt, tt, refl)
folds Filled (b ∷ bs) h =
    cond_both (b == 124) (Some Empty) (begun_by b) (λ o. From Rest o bs → After (b ∷ bs)) (λ e g. bar_after b bs (eqb-true b 124 e) g) (λ _ g. headed_after (b ∷ bs) (head_back b bs g)) h
folds Escape [] h = absurd (false≢true h)
folds Escape (b ∷ bs) h =
    cond_both (mark b || digit b) (Some Filled) None (λ o. From Rest o bs → Escaping (b ∷ bs)) (λ e g. (or_cases (mark b) (digit b) e, g)) (λ _ g. absurd g) h
folds (Inside o) [] h = absurd (false≢true h)
folds (Inside o) (b ∷ bs) h =
    cond_both (between o.low o.high b) (Some (owing o.more)) None (λ q. From Rest q bs → Rest (Inside o) (b ∷ bs))
    (λ e g. let k = and_parts (nat_le o.low b) (nat_le b o.high) e in owes_back o.more o.low o.high b bs (leb-true _ _ k.0) (leb-true _ _ k.1) g) (λ _ g. absurd g) h

-- an expression is legal, or it is refused at the longest beginning that a legal one shares
pub judgement : (e : List ℕ) → Judged Legal e (refusal e)
judgement e = judged State next done Rest Sound alive keeps unfolds folds Empty tt e
