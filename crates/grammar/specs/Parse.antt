-- The items of an expression as a function of its bytes; of bytes that no legal expression has, some items. Assumes nothing.
use Rattle.std.specs.Prelude.{◌≡◌, ℕ, zero, suc, ◌+◌, ◌-◌, ◌*◌, Bool, true, false, cond, List, [], ◌∷◌, length, drop, Some, None, Option, ◌==◌, slice_index}
use Rattle.grammar.specs.declared.bytes.Kind.{Kind}
use Rattle.grammar.specs.declared.bytes.Kind.TheVariants as k
use Rattle.grammar.specs.declared.bytes.Escaped.{Escaped}
use Rattle.grammar.specs.declared.bytes.Escaped.TheVariants as e
use Rattle.grammar.specs.Bytes.{kind_of, escaped_of}
use Rattle.grammar.specs.Grammar.{Sign, plain, escaped, Member, one, range, every, Piece, char, wide, marked, any, set, class, once, maybe, many, some, Item, takes, start, end, never, opens, closes, bar, written, Good}
use Rattle.grammar.specs.declared.items.Piece.{Piece as PieceRead}
use Rattle.grammar.specs.declared.items.Item.{Item as ItemRead}
use Rattle.grammar.specs.declared.items.Items.{Items}
use Rattle.grammar.specs.Items.{shut_of, IsPiece, IsItem}

-- the first character of a class, and what follows it
abbrev pub sign_at : List ℕ → Sign × List ℕ
sign_at bs = cond (slice_index bs 0 == 92) (escaped (slice_index bs 1), drop 2 bs) (plain (slice_index bs 0), drop 1 bs)

-- the member that begins with a
abbrev pub ranged : Sign → List ℕ → Member × List ℕ
ranged a bs = cond (slice_index bs 0 == 45) (range a (sign_at (drop 1 bs)).0, (sign_at (drop 1 bs)).1) (one a, bs)

abbrev pub escaped_member : Option Escaped → ℕ → List ℕ → Member × List ℕ
escaped_member (Some e.Mark) c bs = ranged (escaped c) bs
escaped_member (Some e.Digit) c bs = (one (plain 0), bs)
escaped_member (Some (e.Set s)) c bs = (every s, bs)
escaped_member None c bs = (one (plain 0), bs)

-- the first member of a class, and what follows it
abbrev pub member_at : List ℕ → Member × List ℕ
member_at bs = cond (slice_index bs 0 == 92) (escaped_member (escaped_of (slice_index bs 1)) (slice_index bs 1) (drop 2 bs)) (ranged (plain (slice_index bs 0)) (drop 1 bs))

-- the members up to `]`; n bounds how many
abbrev pub members_at : ℕ → List ℕ → List Member
members_at zero bs = []
members_at (suc n) bs = cond (slice_index bs 0 == 93) [] ((member_at bs).0 ∷ members_at n (member_at bs).1)

-- the class whose members begin bs
abbrev pub class_at : Bool → List ℕ → Piece
class_at not bs = class not (member_at bs).0 (members_at (length bs) (member_at bs).1)

-- the piece, and how often it is taken
abbrev pub timed : Piece → List ℕ → Item × List ℕ
timed p bs =
    cond (slice_index bs 0 == 63) (takes p maybe, drop 1 bs)
    (cond (slice_index bs 0 == 42) (takes p many, drop 1 bs)
    (cond (slice_index bs 0 == 43) (takes p some, drop 1 bs)
    (takes p once, bs)))

-- this item was read, and these bytes are left
abbrev pub Read : ItemRead × Items → Item × List ℕ → Type 0
Read r p = IsItem r.0 p.0 × (r.1.rest.now ≡ p.1)

-- the piece x is taken as often as is written behind it
abbrev pub Repeats : PieceRead → List ℕ → ItemRead × Items → Type 0
Repeats x bytes r = (p : Piece) → IsPiece x p → Read r (timed p bytes)

-- the character whose first byte is b, which n more bytes than one follow
abbrev pub wide_at : ℕ → ℕ → List ℕ → ℕ
wide_at zero b bs = (b - 192) * 64 + (slice_index bs 0 - 128)
wide_at (suc zero) b bs = (b - 224) * 4096 + (slice_index bs 0 - 128) * 64 + (slice_index bs 1 - 128)
wide_at (suc (suc n)) b bs = (b - 240) * 262144 + (slice_index bs 0 - 128) * 4096 + (slice_index bs 1 - 128) * 64 + (slice_index bs 2 - 128)

abbrev pub escaped_part : Option Escaped → ℕ → List ℕ → Item × List ℕ
escaped_part (Some e.Mark) c bs = timed (marked c) bs
escaped_part (Some e.Digit) c bs = (never c, bs)
escaped_part (Some (e.Set s)) c bs = timed (set s) bs
escaped_part None c bs = (bar, bs)

-- the item that begins with a byte b of this kind, before bs
abbrev pub part : Option Kind → ℕ → List ℕ → Item × List ℕ
part (Some k.Bare) b bs = timed (char b) bs
part (Some (k.Lead o)) b bs = timed (wide (wide_at o.more b bs)) (drop (o.more + 1) bs)
part (Some k.Bar) b bs = (bar, bs)
part (Some k.Open) b bs = (opens, bs)
part (Some k.Close) b bs = (closes, bs)
part (Some k.Start) b bs = (start, bs)
part (Some k.End) b bs = (end, bs)
part (Some k.Dot) b bs = timed any bs
part (Some k.Repeat) b bs = (bar, bs)
part (Some k.Backslash) b bs = escaped_part (escaped_of (slice_index bs 0)) (slice_index bs 0) (drop 1 bs)
part (Some k.Bracket) b bs = cond (slice_index bs 0 == 94) (timed (class_at true (drop 1 bs)) (shut_of false bs)) (timed (class_at false bs) (shut_of false bs))
part None b bs = (bar, bs)

-- the first item of bs, and what follows it
abbrev pub part_at : List ℕ → Item × List ℕ
part_at bs = part (kind_of (slice_index bs 0)) (slice_index bs 0) (drop 1 bs)

-- n bounds how many
abbrev pub parts : ℕ → List ℕ → List Item
parts n [] = []
parts zero (b ∷ bs) = []
parts (suc n) (b ∷ bs) = (part_at (b ∷ bs)).0 ∷ parts n (part_at (b ∷ bs)).1

abbrev pub items : List ℕ → List Item
items e = parts (length e) e

-- an expression is written in one way alone: by its items
abbrev pub OneWay : List ℕ → Type 0
OneWay e = (o d : ℕ) (is : List Item) → Good o d is → written is ≡ e → is ≡ items e

-- an expression that is not refused is written by its items
abbrev pub Spelled : List ℕ → Option ℕ → Type 0
Spelled e None = Good 0 0 (items e) × (written (items e) ≡ e)
Spelled e (Some n) = Unit {0}
