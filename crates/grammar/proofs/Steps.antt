-- Items read one at a time. Assumes nothing.
use Rattle.std.proofs.Common.{◌≡◌, ℕ, zero, suc, ◌+◌, ◌-◌, ◌/◌, ◌<◌, ◌≤◌, Bool, true, false, eqb, ltb, List, [], ◌∷◌, ◌++◌, length, get_or, Some, None, Option, refl, ap, ◌∙◌, subst, arith}
use lib.Utf8.{scalar, encode, next}
use Rattle.std.proofs.lemmas.Bool.{cond_both, cond-false, ne_eqb}
use Rattle.chars.specs.declared.leads.Owed.{Owed}
use Rattle.chars.specs.Marks.{unmarked}
use Rattle.chars.specs.Leads.{lead_of}
use Rattle.chars.proofs.Wide.{two, three, four, Owes, Following, Begun, begun}
use Rattle.grammar.specs.declared.bytes.Kind.TheVariants as k
use Rattle.grammar.specs.Bytes.{led_by, kind_of}
use Rattle.grammar.specs.Grammar.{Sign, plain, escaped, Member, one, range, every, char, wide, marked, any, set, class, Item, takes, start, end, never, opens, closes, bar}
use Rattle.grammar.specs.Grammar.{sign, member, members, caret, times, item, written, GoodSign, GoodMember, GoodMembers, Good}
use Rattle.grammar.specs.Items.{shut_of}
use Rattle.grammar.proofs.Told.{is_lead, unlike, unlike_bare}

-- ===== the class ends where it is written to end
plain_on : (c : ℕ) (bs : List ℕ) → unmarked c ≡ true → shut_of false (c ∷ bs) ≡ shut_of false bs
plain_on c bs h = cond-false (eqb c 92) _ _ (unlike 92 c refl h) ∙ cond-false (eqb c 93) _ _ (unlike 93 c refl h)

sign_on : (a : Sign) (bs : List ℕ) → GoodSign a → shut_of false (sign a bs) ≡ shut_of false bs
sign_on (plain c) bs h = plain_on c bs h
sign_on (escaped c) bs h = refl

pub member_on : (m : Member) (bs : List ℕ) → GoodMember m → shut_of false (member m bs) ≡ shut_of false bs
member_on (one a) bs h = sign_on a bs h
member_on (range a z) bs h = sign_on a (45 ∷ sign z bs) h.0 ∙ sign_on z bs h.1
member_on (every s) bs h = refl

pub members_shut : (ms : List Member) (bs : List ℕ) → GoodMembers ms → shut_of false (members ms (93 ∷ bs)) ≡ bs
members_shut [] bs h = refl
members_shut (m ∷ ms) bs h = member_on m (members ms (93 ∷ bs)) h.0 ∙ members_shut ms bs h.1

pub class_shut : (t : Bool) (bs : List ℕ) → shut_of false (caret t bs) ≡ shut_of false bs
class_shut true bs = refl
class_shut false bs = refl

-- ===== a character above 127 is as long as its first byte says
owes_long : (n lo hi : ℕ) (cs bs : List ℕ) → Owes n lo hi (λ t. t ≡ cs) bs → length bs ≡ suc (n + length cs)
owes_long zero lo hi cs [] h = absurd h
owes_long (suc n) lo hi cs [] h = absurd h
owes_long zero lo hi cs (b ∷ bs) h = let e = ap length h.2 in omega arith
owes_long (suc n) lo hi cs (b ∷ bs) h = let e = owes_long n 128 191 cs bs h.2 in omega arith

-- x begins a character of n more bytes after the next one
abbrev pub Leads : ℕ → ℕ → Type 0
Leads x n = (o : Owed) × (kind_of x ≡ Some (k.Lead o)) × (o.more ≡ n)

leads_by : (x n : ℕ) (cs bs : List ℕ) → length bs ≡ suc (n + length cs) → 128 ≤ x → (o : Option Owed) → lead_of x ≡ o → Following (λ t. t ≡ cs) o bs → Leads x n
leads_by x n cs bs long high None e h = absurd h
leads_by x n cs bs long high (Some o) e h = (o, is_lead x high ∙ ap led_by e, omega (arith, owes_long o.more o.low o.high cs bs h))

pub leads_more : (x n : ℕ) (cs bs : List ℕ) → length bs ≡ suc (n + length cs) → Begun (λ t. t ≡ cs) (x ∷ bs) → Leads x n
leads_more x n cs bs long h = leads_by x n cs bs long h.0 (lead_of x) refl h.1

module _ (c : ℕ) (a : 128 ≤ c) (s : scalar c ≡ true) (bs : List ℕ) where
  begins : (cs : List ℕ) → encode c ≡ cs → Begun (λ t. t ≡ bs) (cs ++ bs)
  begins cs e = subst (λ l. Begun (λ t. t ≡ bs) (l ++ bs)) e (begun (λ t. t ≡ bs) c a s bs refl)

  pub leads2 : c < 2048 → Leads (192 + c / 64) 0
  leads2 b = leads_more (192 + c / 64) 0 bs (next c ∷ bs) (omega arith) (begins _ (two c a b))

  pub leads3 : 2048 ≤ c → c < 65536 → Leads (224 + c / 4096) 1
  leads3 b d = leads_more (224 + c / 4096) 1 bs (next (c / 64) ∷ next c ∷ bs) (omega arith) (begins _ (three c b d))

  pub leads4 : 65536 ≤ c → Leads (240 + c / 262144) 2
  leads4 d = leads_more (240 + c / 262144) 2 bs (next (c / 4096) ∷ next (c / 64) ∷ next c ∷ bs) (omega arith) (begins _ (four c d))

-- ===== no item begins with a repeat
abbrev pub Unrepeated : List ℕ → Type 0
Unrepeated bs = (eqb (get_or bs 0 0) 63 ≡ false) × (eqb (get_or bs 0 0) 42 ≡ false) × (eqb (get_or bs 0 0) 43 ≡ false)

pub high_unlike : (m : ℕ) → m < 128 → (bs : List ℕ) → Begun (λ t. Unit {0}) bs → eqb (get_or bs 0 0) m ≡ false
high_unlike m lt [] h = absurd h
high_unlike m lt (b ∷ bs) h = ne_eqb b m (λ e. omega (arith, h.0))

module _ (g d : ℕ) where
  pub unrepeated : (is : List Item) → Good g d is → Unrepeated (written is)
  unrepeated [] h = (refl, refl, refl)
  unrepeated (takes (char c) u ∷ is) h = (unlike_bare 63 c refl h.0, unlike_bare 42 c refl h.0, unlike_bare 43 c refl h.0)
  unrepeated (takes (wide c) u ∷ is) h =
      let bs = times u (written is) in
      let b = begun (λ t. Unit {0}) c h.0.0 h.0.1 bs tt in
      (high_unlike 63 (omega arith) (encode c ++ bs) b, high_unlike 42 (omega arith) (encode c ++ bs) b, high_unlike 43 (omega arith) (encode c ++ bs) b)
  unrepeated (takes (marked c) u ∷ is) h = (refl, refl, refl)
  unrepeated (takes any u ∷ is) h = (refl, refl, refl)
  unrepeated (takes (set s) u ∷ is) h = (refl, refl, refl)
  unrepeated (takes (class not m ms) u ∷ is) h = (refl, refl, refl)
  unrepeated (start ∷ is) h = (refl, refl, refl)
  unrepeated (end ∷ is) h = (refl, refl, refl)
  unrepeated (never n ∷ is) h = (refl, refl, refl)
  unrepeated (opens ∷ is) h = (refl, refl, refl)
  unrepeated (closes ∷ is) h = (refl, refl, refl)
  unrepeated (bar ∷ is) h = (refl, refl, refl)

-- an item has a byte
abbrev pub Bytes : List ℕ → Type 0
Bytes [] = ⊥
Bytes (b ∷ bs) = Unit {0}

wide_bytes : (c : ℕ) (bs : List ℕ) → Bytes (encode c ++ bs)
unfolding encode
wide_bytes c bs = cond_both (ltb c 128) _ _ (λ cs. Bytes (cs ++ bs)) (λ _. tt) (λ _. cond_both (ltb c 2048) _ _ (λ cs. Bytes (cs ++ bs)) (λ _. tt) (λ _. cond_both (ltb c 65536) _ _ (λ cs. Bytes (cs ++ bs)) (λ _. tt) (λ _. tt)))

pub item_bytes : (x : Item) (bs : List ℕ) → Bytes (item x bs)
item_bytes (takes (char c) u) bs = tt
item_bytes (takes (wide c) u) bs = wide_bytes c (times u bs)
item_bytes (takes (marked c) u) bs = tt
item_bytes (takes any u) bs = tt
item_bytes (takes (set s) u) bs = tt
item_bytes (takes (class not m ms) u) bs = tt
item_bytes start bs = tt
item_bytes end bs = tt
item_bytes (never n) bs = tt
item_bytes opens bs = tt
item_bytes closes bs = tt
item_bytes bar bs = tt

-- without its first item
abbrev pub Tail : ℕ → ℕ → Item → List Item → Type 0
Tail o d x is = (p : ℕ) × (q : ℕ) × Good p q is

pub tail : (o d : ℕ) (x : Item) (is : List Item) → Good o d (x ∷ is) → Tail o d x is
tail o d (takes p u) is h = (o, d, h.1)
tail o d start is h = (o, d, h)
tail o d end is h = (o, d, h)
tail o d (never n) is h = (o, d, h.1)
tail o d opens is h = (o + 1, d + 1, h.1)
tail o d closes is h = (o, d - 1, h.1)
tail o d bar is h = (o, d, h.1)
