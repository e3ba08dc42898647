-- Regions and their groups. Assumes nothing.
use Rattle.std.specs.Prelude.{ℕ, replicate, Some, None, Option, slice_index_or, slice_set}
use Rattle.matcher.specs.declared.answer.Span.{Span}
use Rattle.matcher.specs.declared.answer.Region.{Region}

-- group k of a region
abbrev pub group : Region → ℕ → Option Span
group r k = slice_index_or r.groups k None

abbrev pub span : ℕ → ℕ → Span
span begin end = record { begin = begin; end = end }

-- a match without groups of its own
abbrev pub spanning : ℕ → ℕ → Region
spanning begin end = record { groups = slice_set (replicate 16 None) 0 (Some (span begin end)) }
