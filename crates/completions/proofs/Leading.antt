-- The links of a table lead to a mark exactly where the pattern's links do.
use Rattle.std.proofs.Common.{◌≡◌, ℕ, ◌+◌, ◌<◌, ◌≤◌, true, ◌&&◌, eqb, ltb, leb, ◌⊎◌, sym, refl, ap, ◌∙◌, inl, inr, arith}
use Rattle.std.proofs.lemmas.Bool.{and_parts, and_from, or_cases, or_left, or_right, eqb-true, eq-eqb, ltb-true, lt-ltb, leb-true, le-leb}
use Rattle.automata.specs.Language.{Tree}
use Rattle.automata.specs.Places.{First, low}
use Rattle.automata.specs.Links.{Cross, Link}
use Rattle.automata.specs.Distances.{Inside}
use Rattle.automata.proofs.Widths.{start_bounds}
use Rattle.widths.specs.Width.{width_of}
use Rattle.tables.specs.declared.table.Table.{Table}
use Rattle.tables.specs.Masks.{within, next, cross}
use Rattle.tables.specs.Tables.{TableOf, links_of, low_of}
use Rattle.steps.proofs.Relation.{width_here, low_here}
use Rattle.completions.specs.Towards.{leading}

module _ (e : Tree) (t : Table) (table : TableOf e t) (M : ℕ → ℕ → ℕ) (p i q m : ℕ) (inside : Inside e p i) where
  -- a link of the pattern leads from (p, i) to a pair at q with the mark m
  abbrev Leads : Type 0
  Leads = (j : ℕ) × Link e p i q j × (M q j ≡ m)

  crossed : Cross e 0 p q ⊎ ((p ≡ 0) × First e 0 q) → low_of t p ≤ i → Link e p i q 1
  crossed (inl c) h = let v = low_here e t table p inside.0 in inl (inr (inr (c, omega arith, refl)))
  crossed (inr (z, c)) h = inr (z, c, inside.1, refl)

  pub leading_leads : leading t M p i q m ≡ true → Leads
  leading_leads x = elim (or_cases _ _ x) [
    | inl y ↦
        let (k, h) = and_parts (within (links_of t p q)) (eqb (M q i) m) y in
        (i, inl (inl ((table.withins p q).0 k, refl)), eqb-true (M q i) m h)
    | inr y ↦ elim (or_cases _ _ y) [
      | inl z ↦
          let (k, h) = and_parts (next (links_of t p q) && ltb i (width_of t.widths p)) (eqb (M q (i + 1)) m) z in
          let (l, b) = and_parts (next (links_of t p q)) (ltb i (width_of t.widths p)) k in
          let below = ltb-true i (width_of t.widths p) b in
          let w = width_here e t table p inside.0 in
          (i + 1, inl (inr (inl ((table.nexts p q).0 l, omega arith, omega arith))), eqb-true (M q (i + 1)) m h)
      | inr z ↦
          let (k, h) = and_parts (cross (links_of t p q) && leb (low_of t p) i) (eqb (M q 1) m) z in
          let (l, b) = and_parts (cross (links_of t p q)) (leb (low_of t p) i) k in
          (1, crossed ((table.crosses p q).0 l) (leb-true (low_of t p) i b), eqb-true (M q 1) m h)
    ]
  ]

  mark_eqb : (j k : ℕ) → j ≡ k → M q j ≡ m → eqb (M q k) m ≡ true
  mark_eqb j k is h = eq-eqb (M q k) m (sym (ap (M q) is) ∙ h)

  -- the tests of the two other links
  by_next : next (links_of t p q) ≡ true → i < width_of t.widths p → eqb (M q (i + 1)) m ≡ true → leading t M p i q m ≡ true
  by_next l b h =
      or_right (within (links_of t p q) && eqb (M q i) m) _
      (or_left ((next (links_of t p q) && ltb i (width_of t.widths p)) && eqb (M q (i + 1)) m) _
      (and_from (next (links_of t p q) && ltb i (width_of t.widths p)) (eqb (M q (i + 1)) m)
      (and_from (next (links_of t p q)) (ltb i (width_of t.widths p)) l (lt-ltb i (width_of t.widths p) b)) h))

  by_cross : cross (links_of t p q) ≡ true → low_of t p ≤ i → eqb (M q 1) m ≡ true → leading t M p i q m ≡ true
  by_cross l b h =
      or_right (within (links_of t p q) && eqb (M q i) m) _
      (or_right ((next (links_of t p q) && ltb i (width_of t.widths p)) && eqb (M q (i + 1)) m) _
      (and_from (cross (links_of t p q) && leb (low_of t p) i) (eqb (M q 1) m)
      (and_from (cross (links_of t p q)) (leb (low_of t p) i) l (le-leb (low_of t p) i b)) h))

  pub leads_leading : Leads → leading t M p i q m ≡ true
  leads_leading (j, inl (inl (k, is)), h) =
      or_left (within (links_of t p q) && eqb (M q i) m) _
      (and_from (within (links_of t p q)) (eqb (M q i) m) ((table.withins p q).1 k) (mark_eqb j i is h))
  leads_leading (j, inl (inr (inl (k, b, is))), h) =
      let w = width_here e t table p inside.0 in
      by_next ((table.nexts p q).1 k) (omega arith) (mark_eqb j (i + 1) (omega arith) h)
  leads_leading (j, inl (inr (inr (k, b, is))), h) =
      let v = low_here e t table p inside.0 in
      by_cross ((table.crosses p q).1 (inl k)) (omega arith) (mark_eqb j 1 is h)
  leads_leading (j, inr (z, k, b, is), h) =
      let v = low_here e t table p inside.0 in
      let s = start_bounds e in
      let l : low e 0 p ≡ 1 = ap (low e 0) z ∙ s.0 in
      by_cross ((table.crosses p q).1 (inr (z, k))) (omega arith) (mark_eqb j 1 is h)
