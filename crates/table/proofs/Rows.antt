-- A row is filled from its last place to its first. Assumes nothing.
use Rattle.std.proofs.Common.{◌≡◌, ℕ, ◌-◌, ◌<◌, ◌≤◌, Bool, false, ◌≢◌, List, ◌∷◌, length, get_or, set, is_some, sym, ◌∙◌, subst, ⊎_elim, arith}
use Rattle.std.specs.Str.{IsCharBoundary}
use Rattle.std.proofs.lemmas.List.{get_or-set_same, get_or-set_other}
use Rattle.std.proofs.lemmas.Bool.{cases_lt}
use Rattle.grammar.specs.declared.items.Item.{Item}
use Rattle.grammar.specs.Grammar as g
use Rattle.grammar.specs.Items.{IsItem}
use Rattle.ways.specs.Match.{run}
use Rattle.ways.specs.Meaning.{leading}
use Rattle.table.specs.Cells.{Row, Knows, KnowsAbove}

-- the cells from p on are set
pub record Filling (item : Item) (l : List ℕ) (below here : List Bool) (p : ℕ) : Type 0 where
  pub knows : (y : g.Item) (js : List g.Item) → IsItem item y → Row l (leading js) below → (q : ℕ) → p ≤ q → IsCharBoundary l q → get_or here q false ≡ is_some (run l (leading (y ∷ js)) q)

pub filling_more : {item : Item} {l : List ℕ} {below here : List Bool} {p : ℕ} (f : Filling item l below here p) (r : Bool) → 0 < p → p ≤ length here
    → ((y : g.Item) (js : List g.Item) → IsItem item y → Knows l (leading js) below → KnowsAbove l (p - 1) (leading (y ∷ js)) here → r ≡ is_some (run l (leading (y ∷ js)) (p - 1)))
    → Filling item l below (set here (p - 1) r) (p - 1)
filling_more {item} {l} {below} {here} {p} f r lt within tells = record {
  knows = λ y js is row q le b. ⊎_elim
      (λ low. let same : q ≡ p - 1 = omega arith in
      subst (λ (n : ℕ). get_or (set here (p - 1) r) n false ≡ is_some (run l (leading (y ∷ js)) n)) (sym same)
      (get_or-set_same here (p - 1) r false (omega arith) ∙ tells y js is row.knows (λ q gt b. f.knows y js is row q (omega arith) b)))
      (λ high. let other : q ≢ p - 1 = λ same. omega arith in get_or-set_other here (p - 1) q r false other ∙ f.knows y js is row q high b)
      (cases_lt q p);
}
