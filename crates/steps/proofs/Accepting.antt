-- Which pairs of a front accept, by what a bank and a table tell.
use Rattle.automata.proofs.Powers.{decides_T}
use Rattle.std.proofs.Common.{◌≡◌, ℕ, ◌+◌, ◌<◌, true, false, sym, ap, ◌∙◌, inl, inr, arith}
use Rattle.std.proofs.lemmas.Bool.{both_ways}
use Rattle.automata.specs.Language.{Tree}
use Rattle.automata.specs.Places.{nullable}
use Rattle.automata.specs.Step.{Accepts}
use Rattle.automata.proofs.Ranges.{last_range}
use Rattle.banks.specs.Pairs.{Pairs, within, ◌⊆◌}
use Rattle.widths.specs.Width.{width_of}
use Rattle.tables.specs.declared.table.Table.{Table}
use Rattle.tables.specs.Masks.{has_place}
use Rattle.tables.specs.Tables.{TableOf, low_of}
use Rattle.steps.specs.StepSet.{seen}
use Rattle.steps.specs.Fronts.{InSet}
use Rattle.steps.proofs.Any.{Seen, seen_decides}
use Rattle.steps.proofs.Relation.{width_here, low_here, all_inside}

module _ (e : Tree) (t : Table) (table : TableOf e t) (f : Pairs) where
  -- some pair of f accepts
  abbrev pub Accepting : Type 0
  Accepting = (p : ℕ) × (i : ℕ) × InSet f p i × Accepts e p i

  pub last_accepts : (p : ℕ) → has_place t.lasts p ≡ true → seen f p (low_of t p) (width_of t.widths p) ≡ true → Accepting
  last_accepts p l s =
      let (i, lo, hi, x) = (seen_decides f p (low_of t p) (width_of t.widths p)).0 s in
      let last = (table.lasts p).0 l in
      let range = last_range e 0 p last in
      let v = low_here e t table p (omega arith) in
      (p, i, x, inr (last, omega arith))

  pub none_accepts :
      f ⊆ within (width_of t.widths) → (t.nullable ≡ true → Seen f 0 1 1 → ⊥)
      → ((k : ℕ) → k < t.places + 1 → has_place t.lasts k ≡ true → seen f k (low_of t k) (width_of t.widths k) ≡ false)
      → Accepting → ⊥
  none_accepts inside start lasts (p, i, x, inl (z, one, n)) =
      start (table.null ∙ (decides_T (nullable e)).1 n)
      (i, omega arith, omega arith, ap (λ v. f v i) (sym z) ∙ x)
  none_accepts inside start lasts (p, i, x, inr (last, lo)) =
      let n = table.places in
      let bounds = all_inside e t table f inside p i x in
      let w = width_here e t table p bounds.0 in
      let v = low_here e t table p bounds.0 in
      both_ways (seen f p (low_of t p) (width_of t.widths p)) (lasts p (omega arith) ((table.lasts p).1 last))
      ((seen_decides f p (low_of t p) (width_of t.widths p)).1 (i, omega arith, omega arith, x))
