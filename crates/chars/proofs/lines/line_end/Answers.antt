use Rattle.std.proofs.Common.{◌≡◌, ℕ, ◌+◌, ◌<◌, ◌≤◌, List, length, take, drop, Some, None, Option, subst, sym, arith, rules}
use borrow.Author.Tests.{tests}
use Rattle.std.specs.List.{AllWithin, HoldsAt}
use Rattle.std.specs.Option.{MatchOption}
use Rattle.std.proofs.lemmas.Iterator.{IsFirst-from_position, YieldsList-from_slice}
use Rattle.chars.specs.Lines.{First}
use Rattle.chars.proofs.Parts.{first_cut, first_last}
use Rattle.chars.proofs.lines.line_end.Goals as goal

-- n ends the first line, if byte 10 stands first at r
ends : (bs : List ℕ) (n : ℕ) (After : ℕ → Type 0) (r : Option ℕ) → ((i : ℕ) → After i → n ≡ i + 1)
    → MatchOption r (AllWithin (λ x. x ≡ 10 → ⊥) bs 0 (length bs)) (λ i. (i < length bs) × HoldsAt (λ x. x ≡ 10) bs i × AllWithin (λ x. x ≡ 10 → ⊥) bs 0 i)
    → MatchOption r (n ≡ length bs) After
    → (n ≤ length bs) × (0 < length bs → First bs (take n bs) (drop n bs))
ends bs n After None is free e = (omega arith, λ lt. first_last bs n (λ k h. free k 0 (omega arith) (omega arith)) lt e)
ends bs n After (Some i) is at after =
    let e = is i after in
    (omega arith, λ lt. subst (λ (m : ℕ). First bs (take m bs) (drop m bs)) (sym e) (first_cut bs i (λ k h. at.2 k 0 (omega arith) h) at.0 (at.1 0)))

pub returns : goal.returns
returns c =
    let bytes = c.args.bytes.now in
    let place = IsFirst-from_position _ _ _ (λ x. x ≡ 10) (λ x. x ≡ 10 → ⊥) c.position.ensures.ran (YieldsList-from_slice bytes cc) (λ x q k. search (rules, tests)) (λ x q k. search (rules, tests)) in
    let h = ends bytes c.map_or.result _ c.position.result (λ i k. search rules) place c.map_or.ensures in
    record { within = h.0; first = h.1 }
