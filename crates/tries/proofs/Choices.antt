-- The way through the items that leave no choice. Assumes nothing.
use Rattle.std.proofs.Common.{◌≡◌, ℕ, ◌<◌, ◌≤◌, true, false, eqb, ◌⊎◌, List, length, Some, None, Option, refl, ◌∙◌, arith}
use Rattle.grammar.specs.declared.items.Piece.{Piece}
use Rattle.grammar.specs.declared.items.Times.{Times}
use Rattle.grammar.specs.declared.items.Times.TheVariants as u
use Rattle.grammar.specs.declared.items.Item.{Item}
use Rattle.grammar.specs.declared.items.Item.TheVariants as i
use Rattle.grammar.specs.declared.items.Items.{Items}
use Rattle.grammar.specs.Items.{Reads}
use Rattle.ways.specs.declared.cursor.Cursor.{Cursor}
use Rattle.ways.specs.Match.{at_end}
use Rattle.ways.specs.Pieces.{Steps}
use Rattle.tries.specs.Tried.{Tried, TriedMost, TriedBracket}
use Rattle.tries.specs.Choices.{Passed, PassedMaybe}
use Rattle.tries.proofs.Tries.{ends, takes, bars, starts, ends_line, not_here, by_bracket, once_on, some_on, many_on, maybe_first, maybe_again, maybe_none, none_taken}

-- as far as the items were gone through
pub record Passing (items : Items) (from : Cursor) (left : Items) (here : Cursor) : Type 0 where
  pub passed : (ms : List ℕ) → Passed ms items from left here
  pub line : here.line.now ≡ from.line.now
  pub within : length left.rest.now ≤ length items.rest.now

module _ {items : Items} {from : Cursor} {left : Items} {here : Cursor} (p : Passing items from left here) where
  pub all_passed : Reads left.rest.now None → (ms : List ℕ) → Tried items from ms (Some here.place) ms
  all_passed reads ms = p.passed ms (Some here.place) ms (ends reads)

  module _ {item : Item} {others : Items} (reads : Reads left.rest.now (Some (item, others)))
      (onward : length others.rest.now < length left.rest.now) where
    pub bar_passed : item ≡ i.Bar → (ms : List ℕ) → Tried items from ms (Some here.place) ms
    bar_passed same ms = p.passed ms (Some here.place) ms (bars reads same)

    pub start_passed : item ≡ i.Start → eqb here.place 0 ≡ true → Passing items from others here
    start_passed same holds = record {
      passed = λ ms r ns tried. p.passed ms r ns (starts reads tried same holds);
      line = p.line;
      within = let w = p.within in omega arith;
    }

    pub end_passed : item ≡ i.End → at_end here.line.now here.place ≡ true → Passing items from others here
    end_passed same holds = record {
      passed = λ ms r ns tried. p.passed ms r ns (ends_line reads tried same holds);
      line = p.line;
      within = let w = p.within in omega arith;
    }

    pub stopped : ((item ≡ i.Start) × (eqb here.place 0 ≡ false)) ⊎ (((item ≡ i.End) × (at_end here.line.now here.place ≡ false)) ⊎ (item ≡ i.Never))
        → (ms : List ℕ) → Tried items from ms None ms
    stopped why ms = p.passed ms None ms (not_here reads why)

    pub bracket_comes : (item ≡ i.Open) ⊎ (item ≡ i.Close)
        → (ms : List ℕ) (r : Option ℕ) (ns : List ℕ) → TriedBracket others here ms r ns → Tried items from ms r ns
    bracket_comes which ms r ns tried = p.passed ms r ns (by_bracket reads tried which)

    module _ {t : Piece} {times : Times} (same : item ≡ i.Take t times) where
      pub many_comes : times ≡ u.Many
          → (ms : List ℕ) (r : Option ℕ) (ns : List ℕ) → TriedMost t others here ms r ns → Tried items from ms r ns
      many_comes is ms r ns tried = p.passed ms r ns (takes reads (many_on tried is) same)

      -- the piece does not take what is there
      pub none_comes : Steps t here.line.now here.place None → (times ≡ u.Once) ⊎ (times ≡ u.Some)
          → (ms : List ℕ) → Tried items from ms None ms
      none_comes steps is ms = p.passed ms None ms (takes reads (none_taken is steps) same)

      pub maybe_passed : Steps t here.line.now here.place None → times ≡ u.Maybe → Passing items from others here
      maybe_passed steps is = record {
        passed = λ ms r ns tried. p.passed ms r ns (takes reads (maybe_none tried is steps) same);
        line = p.line;
        within = let w = p.within in omega arith;
      }

      -- after a step to q
      module _ {q : Cursor} (steps : Steps t here.line.now here.place (Some q)) (on : q.line.now ≡ here.line.now) where
        pub once_passed : times ≡ u.Once → Passing items from others q
        once_passed is = record {
          passed = λ ms r ns tried. p.passed ms r ns (takes reads (once_on steps on tried is) same);
          line = on ∙ p.line;
          within = let w = p.within in omega arith;
        }

        pub some_comes : times ≡ u.Some
            → (ms : List ℕ) (r : Option ℕ) (ns : List ℕ) → TriedMost t others q ms r ns → Tried items from ms r ns
        some_comes is ms r ns tried = p.passed ms r ns (takes reads (some_on steps on tried is) same)

        pub maybe_comes : times ≡ u.Maybe → PassedMaybe items from others here q
        maybe_comes is = record {
          line = on;
          first = λ ms e ns tried. p.passed ms (Some e) ns (takes reads (maybe_first steps on tried refl is) same);
          again = λ ms mid r ns none tried. p.passed ms r ns (takes reads (maybe_again steps on tried none refl is) same);
        }

-- as far as the tries have chosen, with the places ms noted
pub record Chosen (ms : List ℕ) (items : Items) (from : Cursor) (left : Items) (here : Cursor) : Type 0 where
  pub passed : Passed ms items from left here
  pub line : here.line.now ≡ from.line.now
  pub within : length left.rest.now ≤ length items.rest.now
