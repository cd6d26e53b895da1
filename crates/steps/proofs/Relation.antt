-- The step's set is the automaton's step, for every pattern whose table it is computed from.
use Rattle.std.proofs.Common.{◌≡◌, ℕ, ◌+◌, ◌-◌, ◌≤◌, true, ◌&&◌, leb, refl, ap, ◌∙◌, inl, inr, arith}
use Rattle.std.proofs.lemmas.Bool.{and_parts, or_cases, eq-eqb}
use Rattle.std.proofs.lemmas.Bool.Decides.{nat_tests}
use Rattle.automata.specs.Language.{Tree, WellFormed}
use Rattle.automata.specs.Places.{size, low, width}
use Rattle.automata.specs.Moves.{Moved}
use Rattle.automata.proofs.Ranges.{holds_range}
use Rattle.automata.proofs.Widths.{AllInside, width_some}
use Rattle.automata.proofs.Moves.{step_by_moves}
use Rattle.banks.specs.Pairs.{Pairs, only, moved, within, ◌⊆◌}
use Rattle.widths.specs.Width.{width_of}
use Rattle.tables.specs.declared.table.Table.{Table}
use Rattle.tables.specs.Masks.{within as within_link, next as next_link, cross as cross_link}
use Rattle.tables.specs.Tables.{TableOf, takes, links_of, low_of}
use Rattle.steps.specs.StepSet.{seen, along, leaving, leaving_below, step_set}
use Rattle.steps.specs.Fronts.{InSet, IsStep}
use Rattle.steps.proofs.Any.{any_decides, seen_decides}

module _ (e : Tree) (t : Table) (table : TableOf e t) where
  -- widths and lows at the places that there are
  pub width_here : (p : ℕ) → p ≤ size e → width_of t.widths p ≡ width e 0 p
  width_here p h = let k = table.widths p in grind (arith, nat_tests)

  pub low_here : (p : ℕ) → p ≤ size e → low_of t p ≡ low e 0 p
  low_here p h = let k = table.lows p in grind (arith, nat_tests)

  -- a set within the table's widths is within the pattern's
  pub all_inside : (f : Pairs) → f ⊆ within (width_of t.widths) → AllInside e (InSet f)
  all_inside f inside p i x =
      let h = inside p i x in
      let k = table.widths p in
      let le : p ≤ size e = grind (arith, nat_tests) in
      let w = width_here p le in
      (le, grind (arith, nat_tests), grind (arith, nat_tests))

module _ (e : Tree) (t : Table) (table : TableOf e t) (f : Pairs) (inside : f ⊆ within (width_of t.widths)) where
  -- what the links from p give at q are moves
  along_moved : (p q j : ℕ) → p ≤ size e → 1 ≤ j → j ≤ width e 0 q → along t f p q q j ≡ true → Moved e (InSet f) p q j
  along_moved p q j le a b x = elim (or_cases _ _ x) [
    | inl y ↦
        let (l, m) = and_parts (within_link (links_of t p q)) (moved f p q 0 q j) y in
        let z : f p (j - 0) ≡ true = grind (arith, nat_tests) in
        inl ((table.withins p q).0 l, (j - 0, z, omega arith, a, b))
    | inr y ↦ elim (or_cases _ _ y) [
      | inl z ↦
          let (l, m) = and_parts (next_link (links_of t p q)) (moved f p q 1 q j) z in
          let k : f p (j - 1) ≡ true = grind (arith, nat_tests) in
          inr (inl ((table.nexts p q).0 l, (j - 1, k, omega arith, a, b)))
      | inr z ↦
          let (l, o) = and_parts (cross_link (links_of t p q) && seen f p (low_of t p) (width_of t.widths p)) (only q 1 q j) z in
          let (k, s) = and_parts (cross_link (links_of t p q)) (seen f p (low_of t p) (width_of t.widths p)) l in
          let (i, lo, hi, y) = (seen_decides f p (low_of t p) (width_of t.widths p)).0 s in
          let w = width_here e t table p le in
          let v = low_here e t table p le in
          inr (inr ((table.crosses p q).0 k, (i, y, omega arith, omega arith), grind (arith, nat_tests)))
    ]
  ]

  -- moves are what the links from p give at q
  moved_along : (p q j : ℕ) → Moved e (InSet f) p q j → along t f p q q j ≡ true
  moved_along p q j (inl (k, (i, x, is, a, b))) =
      let l = (table.withins p q).1 k in
      let n : j - 0 ≡ i = omega arith in
      let z : f p (j - 0) ≡ true = ap (f p) n ∙ x in
      let h = eq-eqb q q refl in
      grind (arith, nat_tests)
  moved_along p q j (inr (inl (k, (i, x, is, a, b)))) =
      let l = (table.nexts p q).1 k in
      let n : j - 1 ≡ i = omega arith in
      let z : f p (j - 1) ≡ true = ap (f p) n ∙ x in
      let h = eq-eqb q q refl in
      grind (arith, nat_tests)
  moved_along p q j (inr (inr (k, (i, x, lo, hi), is))) =
      let l = (table.crosses p q).1 k in
      let le = (all_inside e t table f inside p i x).0 in
      let w = width_here e t table p le in
      let v = low_here e t table p le in
      let s = (seen_decides f p (low_of t p) (width_of t.widths p)).1 (i, omega arith, omega arith, x) in
      let h = eq-eqb q q refl in
      grind (arith, nat_tests)

  -- a move comes from a place that there is, and its count is within the widths
  moved_bounds : (p q j : ℕ) → WellFormed e → Moved e (InSet f) p q j → (p ≤ size e) × (1 ≤ j) × (j ≤ width e 0 q)
  moved_bounds p q j formed (inl (k, (i, x, is, a, b))) = ((all_inside e t table f inside p i x).0, a, b)
  moved_bounds p q j formed (inr (inl (k, (i, x, is, a, b)))) = ((all_inside e t table f inside p i x).0, a, b)
  moved_bounds p q j formed (inr (inr (k, (i, x, lo, hi), is))) =
      let w = width_some e 0 q formed in
      ((all_inside e t table f inside p i x).0, omega arith, omega arith)

-- the step's set of a set within the widths is its step
pub step_is : (t : Table) (c : ℕ) (f : Pairs) → f ⊆ within (width_of t.widths) → IsStep t c f (step_set t c f)
step_is t c f inside e formed table q j =
    let moves = step_by_moves e (InSet f) formed (all_inside e t table f inside) c q j in
    let n = table.places in (
      (λ x.
          let (l, w) = and_parts (leaving_below t c f (t.places + 1) q j) (within (width_of t.widths) q j) x in
          let (p, below, y) = (any_decides (t.places + 1) (λ p. leaving t c f p q j)).0 l in
          let (h, a) = and_parts (leb 1 q && (leb q t.places && takes t q c)) (along t f p q q j) y in
          let held : takes t q c ≡ true = grind arith in
          let le : q ≤ size e = grind (arith, nat_tests) in
          let v = width_here e t table q le in
          moves.1 ((table.sets q c).0 held, (p, along_moved e t table f inside p q j (omega arith) (grind (arith, nat_tests)) (grind (arith, nat_tests)) a))),
      (λ x.
          let (h, (p, m)) = moves.0 x in
          let held = (table.sets q c).1 h in
          let range = holds_range e 0 q c h in
          let bounds = moved_bounds e t table f inside p q j formed m in
          let a = moved_along e t table f inside p q j m in
          let v = width_here e t table q (omega arith) in
          let y : leaving t c f p q j ≡ true = grind (arith, nat_tests) in
          let l = (any_decides (t.places + 1) (λ p. leaving t c f p q j)).1 (p, omega arith, y) in
          grind (arith, nat_tests)),
    )
