use Rattle.std.proofs.Common.{◌≡◌, ℕ, ◌+◌, ◌<◌, ◌^◌, List, [], length}
use Rattle.std.specs.Iterator.Adapters.{copied_source}
use Rattle.std.specs.Slice.Iter.{iter_rest}
use Rattle.grammar.specs.Grammar as g
use Rattle.ways.specs.Match.{Way}
use Rattle.ways.specs.Groups.{laid}
use Rattle.ways.specs.Matched.{brackets}
use Rattle.ways.specs.Meaning.{leading}
use Rattle.ways.specs.Starts.{Begins}
use Rattle.expression.specs.Layout.{laid_by}
use Rattle.expression.proofs.Lays.{fresh, Lying}
use Rattle.expression.proofs.groups.region.Given as goal

abbrev pub invariant-loop-item : goal.invariant-loop-item
invariant-loop-item l = record {
  few : l.laying.opened + length l.item-iterator.rest.now < 2 ^ 63;
  lies : (e : List ℕ) (is : List g.Item) (w : Way) → Begins e l.start is → length w ≡ length (leading is) → l.matched.brackets.items ≡ brackets (leading is) w
      → Lying (laid_by l.laying) l.item-iterator.rest.now (iter_rest (copied_source l.places)) (laid (fresh l.start.opened []) (leading is) w);
}
