-- The order of pairs, by place and then count, goes with the rank.
use Rattle.std.proofs.Common.{◌≡◌, ℕ, ◌-◌, ◌<◌, ◌≤◌, Bool, true, false, ltb, leb, List, length, get_or, Some, Ordering, Option, sym, refl, ap, ◌∙◌, ⊎_elim, zero-le, arith}
use Rattle.std.specs.Ordering.{MatchOrdering, nat_cmp, is_lt, is_ge, is_some_and, partial_ordering_then}
use Rattle.std.specs.declared.cmp.Ordering.TheVariants.{Less, Equal, Greater}
use Rattle.std.specs.List.Sorted.{IsPartitionedBy, IsPartitionPoint}
use Rattle.std.proofs.lemmas.Bool.{cases_eq, ltb-true, ltb-false, leb-false, lt-ltb}
use Rattle.std.proofs.lemmas.Bool.Decides.{nat_tests}
use Rattle.std.proofs.lemmas.List.{get_or_default}
use Rattle.std.proofs.lemmas.Cmp.{ranked}
use Rattle.list_bank.specs.declared.pairs.PairList.{PairList}
use Rattle.list_bank.specs.Listed.{rank}
use Rattle.list_bank.specs.Means.{First}

-- how y is to x, by place and then count
abbrev pub pair_cmp : ℕ × ℕ → ℕ × ℕ → Option Ordering
pair_cmp y x = partial_ordering_then (Some (nat_cmp y.0 x.0)) (Some (nat_cmp y.1 x.1))

by_both : (y x : ℕ × ℕ) (a b : Ordering) → y.1 < 65536 → x.1 < 65536 → MatchOrdering a (y.0 < x.0) (y.0 ≡ x.0) (x.0 < y.0) → MatchOrdering b (y.1 < x.1) (y.1 ≡ x.1) (x.1 < y.1)
    → (is_some_and is_lt (partial_ordering_then (Some a) (Some b)) ≡ ltb (rank y) (rank x)) × (is_some_and is_ge (partial_ordering_then (Some a) (Some b)) ≡ leb (rank x) (rank y))
by_both y x Less b fy fx p q = (grind (arith, nat_tests), grind (arith, nat_tests))
by_both y x Equal Less fy fx p q = (grind (arith, nat_tests), grind (arith, nat_tests))
by_both y x Equal Equal fy fx p q = (grind (arith, nat_tests), grind (arith, nat_tests))
by_both y x Equal Greater fy fx p q = (grind (arith, nat_tests), grind (arith, nat_tests))
by_both y x Greater b fy fx p q = (grind (arith, nat_tests), grind (arith, nat_tests))

pub by_rank : (y x : ℕ × ℕ) → y.1 < 65536 → x.1 < 65536 → (is_some_and is_lt (pair_cmp y x) ≡ ltb (rank y) (rank x)) × (is_some_and is_ge (pair_cmp y x) ≡ leb (rank x) (rank y))
by_rank y x fy fx = by_both y x (nat_cmp y.0 x.0) (nat_cmp y.1 x.1) fy fx (ranked y.0 x.0 _ refl) (ranked y.1 x.1 _ refl)

module _ (l : PairList) (p i : ℕ) (fits : i < 65536) where
  -- the pair y comes before (p, i)
  abbrev pub is_before : ℕ × ℕ → Bool
  is_before y = is_some_and is_lt (pair_cmp y (p, i))

  here : (m : ℕ) (d : ℕ × ℕ) → m < length l.pairs.items → is_before (get_or l.pairs.items m d) ≡ ltb (rank (get_or l.pairs.items m (0, 0))) (rank (p, i))
  here m d h =
      ap is_before (get_or_default l.pairs.items m d (0, 0) h) ∙ (by_rank (get_or l.pairs.items m (0, 0)) (p, i) (l.counts m h) fits).0

  -- later pairs are no less
  pub later : (a j : ℕ) → a ≤ j → j < length l.pairs.items → rank (get_or l.pairs.items a (0, 0)) ≤ rank (get_or l.pairs.items j (0, 0))
  later a j le u = ⊎_elim
      (λ (e : a ≡ j). let r : rank (get_or l.pairs.items a (0, 0)) ≡ rank (get_or l.pairs.items j (0, 0)) = ap (λ (k : ℕ). rank (get_or l.pairs.items k (0, 0))) e in omega arith)
      (λ (d : a ≡ j → ⊥). let o = l.ascends a j (omega arith) u in omega arith)
      (cases_eq a j)

  -- those that come before stand before the others
  pub parted : IsPartitionedBy is_before l.pairs.items
  parted a j d le u t =
      let o = later a j le u in
      let b = ltb-true (rank (get_or l.pairs.items j (0, 0))) (rank (p, i)) (sym (here j d u) ∙ t) in
      here a d (omega arith) ∙ lt-ltb (rank (get_or l.pairs.items a (0, 0))) (rank (p, i)) (omega arith)

  -- where they end
  pub first_at : (k : ℕ) → k ≤ length l.pairs.items → IsPartitionPoint (λ y. is_before y ≡ true) (λ y. is_before y ≡ false) l.pairs.items k → First l k p i
  first_at k bound point = record {
    bound = bound;
    below = λ m h. ltb-true (rank (get_or l.pairs.items m (0, 0))) (rank (p, i)) (sym (here m (0, 0) (omega arith)) ∙ point.0 m (0, 0) zero-le h);
    from = λ m h u. ltb-false (rank (get_or l.pairs.items m (0, 0))) (rank (p, i)) (sym (here m (0, 0) u) ∙ point.1 m (0, 0) h u);
  }

  -- where the last comes before, and where there is none
  pub all_before : (last : ℕ × ℕ) (xs : List (ℕ × ℕ)) (k : ℕ) → xs ≡ l.pairs.items → 0 < length xs → last ≡ get_or xs (length xs - 1) (0, 0)
      → is_some_and is_ge (pair_cmp last (p, i)) ≡ false → k ≡ length l.pairs.items → First l k p i
  all_before last xs k e some at not_ge is =
      let n = ap length e in
      let s : last ≡ get_or l.pairs.items (length l.pairs.items - 1) (0, 0) = at ∙ ap (λ (ys : List (ℕ × ℕ)). get_or ys (length ys - 1) (0, 0)) e in
      let fit = l.counts (length l.pairs.items - 1) (omega arith) in
      let t = (by_rank (get_or l.pairs.items (length l.pairs.items - 1) (0, 0)) (p, i) fit fits).1 in
      let lt = leb-false (rank (p, i)) (rank (get_or l.pairs.items (length l.pairs.items - 1) (0, 0)))
      (sym t ∙ ap (λ (y : ℕ × ℕ). is_some_and is_ge (pair_cmp y (p, i))) (sym s) ∙ not_ge) in
      record {
        bound = omega arith;
        below = λ m h. let o = later m (length l.pairs.items - 1) (omega arith) (omega arith) in omega arith;
        from = λ m h u. let no_way : ⊥ = omega arith in absurd no_way;
      }

  pub none_before : (xs : List (ℕ × ℕ)) (k : ℕ) → xs ≡ l.pairs.items → false ≡ ltb 0 (length xs) → k ≡ length l.pairs.items → First l k p i
  none_before xs k e none is =
      let n = ap length e in
      let z = ltb-false 0 (length xs) (sym none) in
      record {
        bound = omega arith;
        below = λ m h. let no_way : ⊥ = omega arith in absurd no_way;
        from = λ m h u. let no_way : ⊥ = omega arith in absurd no_way;
      }
