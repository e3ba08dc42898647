-- A legal expression is UTF-8. Assumes nothing.
use Rattle.std.proofs.Common.{ℕ, zero, suc, ◌<◌, Bool, true, false, List, [], ◌∷◌, subst, arith}
use lib.Utf8.{encode}
use Rattle.std.specs.Str.{IsUtf8, IsAscii}
use Rattle.std.proofs.lemmas.Str.{IsUtf8-append, IsUtf8-nil, IsUtf8-encode, IsUtf8-from_ascii}
use Rattle.chars.specs.declared.sets.Set.{Set}
use Rattle.grammar.specs.Grammar.{Sign, plain, escaped, Member, one, range, every, Piece, char, wide, marked, any, set, class, Times, once, maybe, many, some, Item, takes, start, end, never, opens, closes, bar}
use Rattle.grammar.specs.Grammar.{letter, sign, member, members, caret, piece, times, item, written, GoodSign, GoodMember, GoodMembers, GoodPiece, Good, LegalFrom}
use Rattle.grammar.proofs.Told.{mark_low, unmarked_low}
use Rattle.grammar.proofs.First.{bare_low, letter_low, digit_low}
use Rattle.grammar.proofs.Steps.{tail}

alone : (c : ℕ) → c < 128 → IsAscii (c ∷ [])
alone c h zero = h
alone c h (suc i) = omega arith

-- an ASCII character before a text
before : (c : ℕ) (bs : List ℕ) → c < 128 → IsUtf8 bs → IsUtf8 (c ∷ bs)
before c bs h u = IsUtf8-append (c ∷ []) bs (IsUtf8-from_ascii (c ∷ []) (alone c h)) u

sign_text : (a : Sign) (bs : List ℕ) → GoodSign a → IsUtf8 bs → IsUtf8 (sign a bs)
sign_text (plain c) bs h u = before c bs (unmarked_low c h) u
sign_text (escaped c) bs h u = before 92 (c ∷ bs) (omega arith) (before c bs (omega (arith, mark_low c h)) u)

letter_text : (s : Set) (bs : List ℕ) → IsUtf8 bs → IsUtf8 (92 ∷ letter s ∷ bs)
letter_text s bs u = before 92 (letter s ∷ bs) (omega arith) (before (letter s) bs (letter_low s) u)

member_text : (m : Member) (bs : List ℕ) → GoodMember m → IsUtf8 bs → IsUtf8 (member m bs)
member_text (one a) bs h u = sign_text a bs h u
member_text (range a z) bs h u = sign_text a (45 ∷ sign z bs) h.0 (before 45 (sign z bs) (omega arith) (sign_text z bs h.1 u))
member_text (every s) bs h u = letter_text s bs u

members_text : (ms : List Member) (bs : List ℕ) → GoodMembers ms → IsUtf8 bs → IsUtf8 (members ms bs)
members_text [] bs h u = u
members_text (m ∷ ms) bs h u = member_text m (members ms bs) h.0 (members_text ms bs h.1 u)

caret_text : (t : Bool) (bs : List ℕ) → IsUtf8 bs → IsUtf8 (caret t bs)
caret_text true bs u = before 94 bs (omega arith) u
caret_text false bs u = u

times_text : (t : Times) (bs : List ℕ) → IsUtf8 bs → IsUtf8 (times t bs)
times_text once bs u = u
times_text maybe bs u = before 63 bs (omega arith) u
times_text many bs u = before 42 bs (omega arith) u
times_text some bs u = before 43 bs (omega arith) u

piece_text : (p : Piece) (bs : List ℕ) → GoodPiece p → IsUtf8 bs → IsUtf8 (piece p bs)
piece_text (char c) bs h u = before c bs (bare_low c h) u
piece_text (wide c) bs h u = IsUtf8-append (encode c) bs (IsUtf8-encode c h.1) u
piece_text (marked c) bs h u = before 92 (c ∷ bs) (omega arith) (before c bs (omega (arith, mark_low c h)) u)
piece_text any bs h u = before 46 bs (omega arith) u
piece_text (set s) bs h u = letter_text s bs u
piece_text (class not m ms) bs h u =
    let cs = members ms (93 ∷ bs) in
    let inside = member_text m cs h.0 (members_text ms (93 ∷ bs) h.1 (before 93 bs (omega arith) u)) in
    before 91 (caret not (member m cs)) (omega arith) (caret_text not (member m cs) inside)

item_text : (o d : ℕ) (x : Item) (is : List Item) → Good o d (x ∷ is) → (bs : List ℕ) → IsUtf8 bs → IsUtf8 (item x bs)
item_text o d (takes p t) is h bs u = piece_text p (times t bs) h.0 (times_text t bs u)
item_text o d start is h bs u = before 94 bs (omega arith) u
item_text o d end is h bs u = before 36 bs (omega arith) u
item_text o d (never n) is h bs u = before 92 (n ∷ bs) (omega arith) (before n bs (digit_low n h.0) u)
item_text o d opens is h bs u = before 40 bs (omega arith) u
item_text o d closes is h bs u = before 41 bs (omega arith) u
item_text o d bar is h bs u = before 124 bs (omega arith) u

written_text : (is : List Item) (o d : ℕ) → Good o d is → IsUtf8 (written is)
written_text [] o d h = IsUtf8-nil
written_text (x ∷ is) o d h = let t = tail o d x is h in item_text o d x is h (written is) (written_text is t.0 t.1 t.2)

pub legal_text : (o d : ℕ) (bytes : List ℕ) → LegalFrom o d bytes → IsUtf8 bytes
legal_text o d bytes h = subst IsUtf8 h.2 (written_text h.0 o d h.1)
