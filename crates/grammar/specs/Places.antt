-- The item at a place of any bytes, whatever they are. Assumes nothing.
use Rattle.std.specs.Prelude.{◌≡◌, ℕ, zero, suc, ◌+◌, Bool, true, false, cond, ◌&&◌, List, ◌∷◌, drop, Some, None, Option, ◌==◌, slice_index}
use Rattle.std.proofs.Math.Utf8.{scalar}
use Rattle.chars.specs.declared.leads.Owed.{Owed}
use Rattle.chars.specs.declared.sets.Set.{Set}
use Rattle.chars.specs.Sets.{between}
use Rattle.chars.specs.Leads.{goes_on}
use Rattle.grammar.specs.declared.bytes.Kind.{Kind}
use Rattle.grammar.specs.declared.bytes.Kind.TheVariants as k
use Rattle.grammar.specs.declared.bytes.Escaped.{Escaped}
use Rattle.grammar.specs.declared.bytes.Escaped.TheVariants as e
use Rattle.grammar.specs.declared.items.Piece.{Piece}
use Rattle.grammar.specs.declared.items.Piece.TheVariants as p
use Rattle.grammar.specs.declared.items.Times.{Times}
use Rattle.grammar.specs.declared.items.Times.TheVariants as t
use Rattle.grammar.specs.declared.items.Item.{Item}
use Rattle.grammar.specs.declared.items.Item.TheVariants as i
use Rattle.grammar.specs.Bytes.{kind_of, escaped_of}
use Rattle.grammar.specs.Grammar as g
use Rattle.grammar.specs.Classes.{complemented, members_of}
use Rattle.grammar.specs.Items.{shut_of, IsItem}
use Rattle.grammar.specs.Parse.{wide_at}

-- What was read, by its bytes: a class is whether it is a complement, and the bytes from its first member on.
pub data Shape : Type 0 where
  char : ℕ → Shape
  any : Shape
  set : Set → Shape
  class : Bool → List ℕ → Shape

pub data Token : Type 0 where
  take : Shape → Times → Token
  start : Token
  end : Token
  never : Token
  opens : Token
  closes : Token
  bar : Token

abbrev pub shape : Piece → Shape
shape (p.Char c) = char c
shape p.Any = any
shape (p.Set s) = set s
shape (p.Class x) = class x.negated x.members.now

abbrev pub token : Item → Token
token (i.Take x u) = take (shape x) u
token i.Start = start
token i.End = end
token i.Never = never
token i.Open = opens
token i.Close = closes
token i.Bar = bar

-- the piece, and how often it is taken
abbrev pub repeated_as : Shape → List ℕ → Token × List ℕ
repeated_as x bs =
    cond (slice_index bs 0 == 63) (take x t.Maybe, drop 1 bs)
    (cond (slice_index bs 0 == 42) (take x t.Many, drop 1 bs)
    (cond (slice_index bs 0 == 43) (take x t.Some, drop 1 bs)
    (take x t.Once, bs)))

abbrev pub escaped_by : Option Escaped → ℕ → List ℕ → Token × List ℕ
escaped_by (Some e.Mark) b bs = repeated_as (char b) bs
escaped_by (Some e.Digit) b bs = (never, bs)
escaped_by (Some (e.Set s)) b bs = repeated_as (set s) bs
escaped_by None b bs = (never, bs)

-- after a backslash
abbrev pub escaped_as : List ℕ → Token × List ℕ
escaped_as bs = escaped_by (escaped_of (slice_index bs 0)) (slice_index bs 0) (drop 1 bs)

-- the bytes that follow the second byte of a character, if it owes any
abbrev pub goes_further : ℕ → List ℕ → Bool
goes_further zero bs = true
goes_further (suc zero) bs = between 128 191 (slice_index bs 1)
goes_further (suc (suc n)) bs = between 128 191 (slice_index bs 1) && between 128 191 (slice_index bs 2)

-- a character that owes this is whole
abbrev pub whole : Owed → List ℕ → Bool
whole o bs = goes_on o (slice_index bs 0) && goes_further o.more bs

-- the character whose first byte is b; where its bytes are broken, the replacement character
abbrev pub wide_of : Owed → ℕ → List ℕ → ℕ
wide_of o b bs = cond (whole o bs && scalar (wide_at o.more b bs)) (wide_at o.more b bs) 65533

-- the class whose bytes after `[` are bs
abbrev pub class_of : List ℕ → Shape
class_of bs = class (complemented bs) (members_of bs)

-- the item that begins with a byte b of this kind, before bs
abbrev pub item_by : Option Kind → ℕ → List ℕ → Token × List ℕ
item_by (Some k.Bare) b bs = repeated_as (char b) bs
item_by (Some (k.Lead o)) b bs = repeated_as (char (wide_of o b bs)) (drop (o.more + 1) bs)
item_by (Some k.Bar) b bs = (bar, bs)
item_by (Some k.Open) b bs = (opens, bs)
item_by (Some k.Close) b bs = (closes, bs)
item_by (Some k.Start) b bs = (start, bs)
item_by (Some k.End) b bs = (end, bs)
item_by (Some k.Dot) b bs = repeated_as any bs
item_by (Some k.Repeat) b bs = (never, bs)
item_by (Some k.Backslash) b bs = escaped_as bs
item_by (Some k.Bracket) b bs = repeated_as (class_of bs) (shut_of false bs)
item_by None b bs = (never, bs)

-- the first item of bs, and what follows it
abbrev pub item_of : List ℕ → Token × List ℕ
item_of bs = item_by (kind_of (slice_index bs 0)) (slice_index bs 0) (drop 1 bs)

-- whatever items are written from i on, the first of them is x, and the others are written from n on
abbrev pub ReadsAt : List ℕ → ℕ → Item → ℕ → Type 0
ReadsAt e i x n =
    (o d : ℕ) (y : g.Item) (is : List g.Item) → g.Good o d (y ∷ is) → g.written (y ∷ is) ≡ drop i e
    → IsItem x y × (drop n e ≡ g.written is)
