-- The item at a place of any bytes is the one that is written there. Assumes nothing.
use Rattle.std.proofs.Common.{◌≡◌, ℕ, zero, suc, ◌+◌, ◌-◌, ◌<◌, ◌≤◌, Bool, true, false, ◌&&◌, eqb, leb, List, [], ◌∷◌, ◌++◌, length, get_or, drop, Some, None, Option, sym, refl, ap, ◌∙◌, subst, ⊎_elim, length-drop, add-one, arith}
use lib.Utf8.{scalar, encode}
use Rattle.std.proofs.lemmas.Bool.{cond_both, cond-true, cond-false, and_from, le-leb, cases_lt}
use Rattle.std.proofs.lemmas.List.{drop-drop, drop_all}
use Rattle.chars.specs.declared.leads.Owed.{Owed}
use Rattle.chars.specs.declared.sets.Set.{Set}
use Rattle.chars.specs.Sets.{between}
use Rattle.chars.specs.Leads.{lead_of}
use Rattle.chars.proofs.Wide.{Owes, Following, Begun, begun}
use Rattle.grammar.specs.declared.bytes.Kind.{Kind}
use Rattle.grammar.specs.declared.bytes.Kind.TheVariants as k
use Rattle.grammar.specs.declared.bytes.Escaped.{Escaped}
use Rattle.grammar.specs.declared.bytes.Escaped.TheVariants as e
use Rattle.grammar.specs.declared.class.Class.{Class}
use Rattle.grammar.specs.declared.items.Piece.{Piece}
use Rattle.grammar.specs.declared.items.Piece.TheVariants as p
use Rattle.grammar.specs.declared.items.Times.{Times}
use Rattle.grammar.specs.declared.items.Item.{Item}
use Rattle.grammar.specs.declared.items.Item.TheVariants as i
use Rattle.grammar.specs.Bytes.{led_by, kind_of}
use Rattle.grammar.specs.Grammar as g
use Rattle.grammar.specs.Grammar.{letter, member, members, caret, piece, times, item, written, GoodPiece, Good}
use Rattle.grammar.specs.Items.{shut_of, IsPiece, IsItem, times_of}
use Rattle.grammar.specs.Parse.{timed, wide_at, part, part_at}
use Rattle.grammar.specs.Places as s
use Rattle.grammar.specs.Places.{Shape, Token, shape, token, repeated_as, escaped_by, goes_further, whole, wide_of, item_by, item_of, ReadsAt}
use Rattle.grammar.proofs.Told.{is_bare, is_mark, is_digit, is_set, is_lead}
use Rattle.grammar.proofs.Steps.{member_on, members_shut, class_shut, unrepeated}
use Rattle.grammar.proofs.Parsed.{wide_read}
use Rattle.grammar.proofs.Listed.{turn_read, members_from}

-- ===== what follows an item ends the bytes
abbrev Ends : List ℕ → List ℕ → Type 0
Ends bs r = (n : ℕ) × (r ≡ drop n bs)

further : (bs cs r : List ℕ) → Ends bs cs → Ends cs r → Ends bs r
further bs cs r h j = (h.0 + j.0, j.1 ∙ ap (drop j.0) h.1 ∙ drop-drop j.0 h.0 bs)

one_more : (b : ℕ) (bs r : List ℕ) → Ends bs r → Ends (b ∷ bs) r
one_more b bs r h = (suc h.0, h.1)

shut_ends : (t : Bool) (bs : List ℕ) → Ends bs (shut_of t bs)
shut_ends true [] = (0, refl)
shut_ends false [] = (0, refl)
shut_ends true (b ∷ bs) = one_more b bs _ (shut_ends false bs)
shut_ends false (b ∷ bs) =
    cond_both (eqb b 92) _ _ (Ends (b ∷ bs)) (λ _. one_more b bs _ (shut_ends true bs))
    (λ _. cond_both (eqb b 93) _ _ (Ends (b ∷ bs)) (λ _. (1, refl)) (λ _. one_more b bs _ (shut_ends false bs)))

repeated_ends : (x : Shape) (bs : List ℕ) → Ends bs (repeated_as x bs).1
repeated_ends x bs =
    cond_both (eqb (get_or bs 0 0) 63) _ _ (λ (q : Token × List ℕ). Ends bs q.1) (λ _. (1, refl))
    (λ _. cond_both (eqb (get_or bs 0 0) 42) _ _ (λ (q : Token × List ℕ). Ends bs q.1) (λ _. (1, refl))
    (λ _. cond_both (eqb (get_or bs 0 0) 43) _ _ (λ (q : Token × List ℕ). Ends bs q.1) (λ _. (1, refl)) (λ _. (0, refl))))

escaped_ends : (o : Option Escaped) (b : ℕ) (bs : List ℕ) → Ends bs (escaped_by o b bs).1
escaped_ends (Some e.Mark) b bs = repeated_ends (s.char b) bs
escaped_ends (Some e.Digit) b bs = (0, refl)
escaped_ends (Some (e.Set x)) b bs = repeated_ends (s.set x) bs
escaped_ends None b bs = (0, refl)

item_ends : (o : Option Kind) (b : ℕ) (bs : List ℕ) → Ends bs (item_by o b bs).1
item_ends (Some k.Bare) b bs = repeated_ends (s.char b) bs
item_ends (Some (k.Lead o)) b bs =
    further bs (drop (o.more + 1) bs) _ (o.more + 1, refl) (repeated_ends (s.char (wide_of o b bs)) (drop (o.more + 1) bs))
item_ends (Some k.Bar) b bs = (0, refl)
item_ends (Some k.Open) b bs = (0, refl)
item_ends (Some k.Close) b bs = (0, refl)
item_ends (Some k.Start) b bs = (0, refl)
item_ends (Some k.End) b bs = (0, refl)
item_ends (Some k.Dot) b bs = repeated_ends s.any bs
item_ends (Some k.Repeat) b bs = (0, refl)
item_ends (Some k.Backslash) b bs = further bs (drop 1 bs) _ (1, refl) (escaped_ends _ _ (drop 1 bs))
item_ends (Some k.Bracket) b bs = further bs (shut_of false bs) _ (shut_ends false bs) (repeated_ends (s.class_of bs) (shut_of false bs))
item_ends None b bs = (0, refl)

-- where the next item begins, by how many bytes follow
module _ (e : List ℕ) (i : ℕ) (r : List ℕ) (is : r ≡ (item_of (drop i e)).1) where
  after : Ends (drop (i + 1) e) r
  after =
      let h = item_ends (kind_of (get_or (drop i e) 0 0)) (get_or (drop i e) 0 0) (drop 1 (drop i e)) in
      (h.0, is ∙ h.1 ∙ ap (drop h.0) (drop-drop 1 i e))

  from : r ≡ drop (i + 1 + after.0) e
  from = after.1 ∙ drop-drop after.0 (i + 1) e

  long : length r ≡ length e - (i + 1 + after.0)
  long = ap length from ∙ simp length-drop

  pub no_longer : length r ≤ length e
  no_longer = omega (arith, long)

  pub onward : i < length e → i < length e - length r
  onward lt = omega (arith, long)

  pub rest_from : drop (length e - length r) e ≡ r
  rest_from = ⊎_elim
      (λ lt. let n : length e - length r ≡ i + 1 + after.0 = omega (arith, long) in ap (λ (m : ℕ). drop m e) n ∙ sym from)
      (λ le. drop_all (length e - length r) e (omega (arith, long)) ∙ sym (from ∙ drop_all (i + 1 + after.0) e le))
      (cases_lt (i + 1 + after.0) (length e))

-- ===== a character above 127
goes : (lo hi b : ℕ) → lo ≤ b → b ≤ hi → between lo hi b ≡ true
goes lo hi b h j = and_from (leb lo b) (leb b hi) (le-leb lo b h) (le-leb b hi j)

owes_head : (n lo hi : ℕ) (cs bs : List ℕ) → Owes n lo hi (λ t. t ≡ cs) bs → between lo hi (get_or bs 0 0) ≡ true
owes_head zero lo hi cs [] h = absurd h
owes_head (suc n) lo hi cs [] h = absurd h
owes_head zero lo hi cs (b ∷ bs) h = goes lo hi b h.0 h.1
owes_head (suc n) lo hi cs (b ∷ bs) h = goes lo hi b h.0 h.1

owes_whole : (n lo hi : ℕ) (cs bs : List ℕ) → Owes n lo hi (λ t. t ≡ cs) bs
    → (between lo hi (get_or bs 0 0) && goes_further n bs) ≡ true
owes_whole zero lo hi cs bs h = and_from _ true (owes_head zero lo hi cs bs h) refl
owes_whole (suc zero) lo hi cs [] h = absurd h
owes_whole (suc zero) lo hi cs (b ∷ bs) h = and_from (between lo hi b) _ (goes lo hi b h.0 h.1) (owes_head zero 128 191 cs bs h.2)
owes_whole (suc (suc n)) lo hi cs [] h = absurd h
owes_whole (suc (suc n)) lo hi cs (b ∷ []) h = absurd h.2
owes_whole (suc (suc n)) lo hi cs (b ∷ c ∷ bs) h =
    and_from (between lo hi b) _ (goes lo hi b h.0 h.1)
    (and_from (between 128 191 c) _ (goes 128 191 c h.2.0 h.2.1) (owes_head n 128 191 cs bs h.2.2))

owes_left : (n lo hi : ℕ) (cs bs : List ℕ) → Owes n lo hi (λ t. t ≡ cs) bs → drop (suc n) bs ≡ cs
owes_left zero lo hi cs [] h = absurd h
owes_left (suc n) lo hi cs [] h = absurd h
owes_left zero lo hi cs (b ∷ bs) h = h.2
owes_left (suc n) lo hi cs (b ∷ bs) h = owes_left n 128 191 cs bs h.2

abbrev value_of : g.Piece → ℕ
value_of (g.wide c) = c
value_of _ = 0

abbrev value_in : g.Item → ℕ
value_in (g.takes y u) = value_of y
value_in _ = 0

timed_value : (y : g.Piece) (bs : List ℕ) → value_in (timed y bs).0 ≡ value_of y
timed_value y bs =
    cond_both (eqb (get_or bs 0 0) 63) _ _ (λ (q : g.Item × List ℕ). value_in q.0 ≡ value_of y) (λ _. refl)
    (λ _. cond_both (eqb (get_or bs 0 0) 42) _ _ (λ (q : g.Item × List ℕ). value_in q.0 ≡ value_of y) (λ _. refl)
    (λ _. cond_both (eqb (get_or bs 0 0) 43) _ _ (λ (q : g.Item × List ℕ). value_in q.0 ≡ value_of y) (λ _. refl) (λ _. refl)))

module _ (c : ℕ) (good : scalar c ≡ true) (cs : List ℕ) where
  led : (x : ℕ) (bs : List ℕ) → 128 ≤ x → part_at (x ∷ bs) ≡ timed (g.wide c) cs → (o : Option Owed) → lead_of x ≡ o
      → Following (λ t. t ≡ cs) o bs → item_of (x ∷ bs) ≡ repeated_as (s.char c) cs
  led x bs high part_is None f h = absurd h
  led x bs high part_is (Some o) f h =
      let kind : kind_of x ≡ Some (k.Lead o) = is_lead x high ∙ ap led_by f in
      let value : wide_at o.more x bs ≡ c =
      sym (timed_value (g.wide (wide_at o.more x bs)) (drop (o.more + 1) bs))
      ∙ ap (λ q. value_in q.0) (sym (ap (λ q. part q x bs) kind) ∙ part_is) ∙ timed_value (g.wide c) cs in
      let all = owes_whole o.more o.low o.high cs bs h in
      let scalar_is = ap scalar value ∙ good in
      let is : wide_of o x bs ≡ c =
      cond-true (whole o bs && scalar (wide_at o.more x bs)) _ _ (and_from (whole o bs) _ all scalar_is) ∙ value in
      let left : drop (o.more + 1) bs ≡ cs = ap (λ (m : ℕ). drop m bs) (add-one o.more) ∙ owes_left o.more o.low o.high cs bs h in
      ap (λ q. item_by q x bs) kind ∙ (λ j. repeated_as (s.char (is j)) (left j))

  begun_read : (bs : List ℕ) → Begun (λ t. t ≡ cs) bs → part_at bs ≡ timed (g.wide c) cs
      → item_of bs ≡ repeated_as (s.char c) cs
  begun_read [] h part_is = absurd h
  begun_read (x ∷ bs) h part_is = led x bs h.0 part_is (lead_of x) refl h.1

wide_item : (c : ℕ) → 128 ≤ c → scalar c ≡ true → (cs : List ℕ) → item_of (encode c ++ cs) ≡ repeated_as (s.char c) cs
wide_item c high good cs =
    begun_read c good cs (encode c ++ cs) (begun (λ t. t ≡ cs) c high good cs refl) (wide_read c high good cs)

-- ===== the item that is written
abbrev shape_as : g.Piece → List ℕ → Shape
shape_as (g.char c) bs = s.char c
shape_as (g.wide c) bs = s.char c
shape_as (g.marked c) bs = s.char c
shape_as g.any bs = s.any
shape_as (g.set x) bs = s.set x
shape_as (g.class not m ms) bs = s.class not (member m (members ms (93 ∷ bs)))

abbrev token_as : g.Item → List ℕ → Token
token_as (g.takes y u) bs = s.take (shape_as y (times u bs)) (times_of u)
token_as g.start bs = s.start
token_as g.end bs = s.end
token_as (g.never n) bs = s.never
token_as g.opens bs = s.opens
token_as g.closes bs = s.closes
token_as g.bar bs = s.bar

module _ (o d : ℕ) where
  repeat_read : (x : Shape) (u : g.Times) (is : List g.Item) → Good o d is
      → repeated_as x (times u (written is)) ≡ (s.take x (times_of u), written is)
  repeat_read x g.once is h =
      let n = unrepeated o d is h in
      cond-false (eqb (get_or (written is) 0 0) 63) _ _ n.0 ∙ cond-false (eqb (get_or (written is) 0 0) 42) _ _ n.1
      ∙ cond-false (eqb (get_or (written is) 0 0) 43) _ _ n.2
  repeat_read x g.maybe is h = refl
  repeat_read x g.many is h = refl
  repeat_read x g.some is h = refl

  piece_read : (y : g.Piece) (u : g.Times) (is : List g.Item) → GoodPiece y → Good o d is
      → item_of (piece y (times u (written is))) ≡ (s.take (shape_as y (times u (written is))) (times_of u), written is)
  piece_read (g.char c) u is a h = ap (λ q. item_by q c (times u (written is))) (is_bare c a) ∙ repeat_read (s.char c) u is h
  piece_read (g.wide c) u is a h = wide_item c a.0 a.1 (times u (written is)) ∙ repeat_read (s.char c) u is h
  piece_read (g.marked c) u is a h = ap (λ q. escaped_by q c (times u (written is))) (is_mark c a) ∙ repeat_read (s.char c) u is h
  piece_read g.any u is a h = repeat_read s.any u is h
  piece_read (g.set x) u is a h = ap (λ q. escaped_by q (letter x) (times u (written is))) (is_set x) ∙ repeat_read (s.set x) u is h
  piece_read (g.class not m ms) u is a h =
      let bs = times u (written is) in
      let cs = members ms (93 ∷ bs) in
      let shut : shut_of false (caret not (member m cs)) ≡ bs =
      class_shut not (member m cs) ∙ member_on m cs a.0 ∙ members_shut ms bs a.1 in
      (λ j. repeated_as (s.class (turn_read not m cs a.0 j) (members_from not m cs a.0 j)) (shut j))
      ∙ repeat_read (s.class not (member m cs)) u is h

  item_read : (y : g.Item) (is : List g.Item) → Good o d (y ∷ is)
      → item_of (item y (written is)) ≡ (token_as y (written is), written is)
  item_read (g.takes y u) is h = piece_read y u is h.0 h.1
  item_read g.start is h = refl
  item_read g.end is h = refl
  item_read (g.never n) is h = ap (λ q. escaped_by q n (written is)) (is_digit n h.0)
  item_read g.opens is h = refl
  item_read g.closes is h = refl
  item_read g.bar is h = refl

-- ===== what shows so is that item
char_back : (z : Piece) (c : ℕ) → shape z ≡ s.char c → z ≡ p.Char c
char_back (p.Char x) c h = cc
char_back p.Any c h = cc
char_back (p.Set x) c h = cc
char_back (p.Class x) c h = cc

any_back : (z : Piece) → shape z ≡ s.any → z ≡ p.Any
any_back (p.Char x) h = cc
any_back p.Any h = refl
any_back (p.Set x) h = cc
any_back (p.Class x) h = cc

set_back : (z : Piece) (y : Set) → shape z ≡ s.set y → z ≡ p.Set y
set_back (p.Char x) y h = cc
set_back p.Any y h = cc
set_back (p.Set x) y h = cc
set_back (p.Class x) y h = cc

abbrev Classed : Piece → Bool → List ℕ → Type 0
Classed z n bs = (x : Class) × (z ≡ p.Class x) × (x.negated ≡ n) × (x.members.now ≡ bs)

class_back : (z : Piece) (n : Bool) (bs : List ℕ) → shape z ≡ s.class n bs → Classed z n bs
class_back (p.Char x) n bs h = absurd (cc)
class_back p.Any n bs h = absurd (cc)
class_back (p.Set x) n bs h = absurd (cc)
class_back (p.Class x) n bs h = (x, refl, cc, cc)

piece_back : (y : g.Piece) (bs : List ℕ) (z : Piece) → GoodPiece y → shape z ≡ shape_as y bs → IsPiece z y
piece_back (g.char c) bs z a h = char_back z c h
piece_back (g.wide c) bs z a h = char_back z c h
piece_back (g.marked c) bs z a h = char_back z c h
piece_back g.any bs z a h = any_back z h
piece_back (g.set x) bs z a h = set_back z x h
piece_back (g.class not m ms) bs z a h =
    let x = class_back z not (member m (members ms (93 ∷ bs))) h in
    (x.0, x.1, record { same = x.2; first = a.0; others = a.1; rest = bs; written = x.3 })

-- an item that takes no character
abbrev Lone : Token → Type 0
Lone (s.take x u) = ⊥
Lone _ = Unit {0}

abbrev alone : Token → Item
alone (s.take x u) = i.Never
alone s.start = i.Start
alone s.end = i.End
alone s.never = i.Never
alone s.opens = i.Open
alone s.closes = i.Close
alone s.bar = i.Bar

lone_same : (x : Item) → Lone (token x) → x ≡ alone (token x)
lone_same (i.Take z u) h = absurd h
lone_same i.Start h = refl
lone_same i.End h = refl
lone_same i.Never h = refl
lone_same i.Open h = refl
lone_same i.Close h = refl
lone_same i.Bar h = refl

lone_back : (x : Item) (t : Token) → Lone t → token x ≡ t → x ≡ alone t
lone_back x t l h = lone_same x (subst Lone (sym h) l) ∙ ap alone h

abbrev Took : Item → Shape → Times → Type 0
Took x a u = (z : Piece) × (x ≡ i.Take z u) × (shape z ≡ a)

take_back : (x : Item) (a : Shape) (u : Times) → token x ≡ s.take a u → Took x a u
take_back (i.Take z v) a u h = (z, cc, cc)
take_back i.Start a u h = absurd (cc)
take_back i.End a u h = absurd (cc)
take_back i.Never a u h = absurd (cc)
take_back i.Open a u h = absurd (cc)
take_back i.Close a u h = absurd (cc)
take_back i.Bar a u h = absurd (cc)

item_back : (o d : ℕ) (y : g.Item) (is : List g.Item) (x : Item) → Good o d (y ∷ is) → token x ≡ token_as y (written is) → IsItem x y
item_back o d (g.takes y u) is x good h =
    let z = take_back x (shape_as y (times u (written is))) (times_of u) h in
    (z.0, z.1, piece_back y (times u (written is)) z.0 good.0 z.2)
item_back o d g.start is x good h = lone_back x s.start tt h
item_back o d g.end is x good h = lone_back x s.end tt h
item_back o d (g.never n) is x good h = lone_back x s.never tt h
item_back o d g.opens is x good h = lone_back x s.opens tt h
item_back o d g.closes is x good h = lone_back x s.closes tt h
item_back o d g.bar is x good h = lone_back x s.bar tt h

pub reads_at : (e : List ℕ) (i n : ℕ) (x : Item) → token x ≡ (item_of (drop i e)).0
    → drop n e ≡ (item_of (drop i e)).1 → ReadsAt e i x n
reads_at e i n x a b o d y is good w =
    let h = ap item_of (sym w) ∙ item_read o d y is good in
    (item_back o d y is x good (a ∙ ap (λ q. q.0) h), b ∙ ap (λ q. q.1) h)
