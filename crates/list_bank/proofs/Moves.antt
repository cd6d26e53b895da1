-- The pairs of a list moved from one place to another, one after the other.
use Rattle.std.specs.Prelude.{◌≡◌, ℕ, suc, ◌+◌, ◌-◌, ◌<◌, ◌≤◌, ◌&&◌, ◌||◌, List, ◌==◌, ◌≢◌, slice_index_or}
use Rattle.std.proofs.Common.{sym, ap, ◌∙◌, add-one, arith}
use Rattle.std.proofs.lemmas.Bool.Decides.{nat_tests}
use Rattle.banks.specs.Pairs.{Pairs, only, moved, ◌∪◌, ◌∩◌, ◌⊆◌}
use Rattle.banks.proofs.Sets.{same_pairs, at_pair}
use Rattle.list_bank.specs.Listed.{listed, Short}
use Rattle.list_bank.specs.Means.{up_to}
use Rattle.list_bank.proofs.Lists.{listed_rises}

-- a subset of a short set is short
pub short_fewer : (s t : Pairs) → s ⊆ t → Short t → Short s
short_fewer s t h x = (x.0, x.1, (λ p i e. x.2 p i (h p i e)))

-- the first n pairs, moved, are with s
abbrev pub with_moved : Pairs → List (ℕ × ℕ) → ℕ → ℕ → ℕ → ℕ → ℕ → Pairs
with_moved s xs p q by width n = s ∪ (moved (listed xs n) p q by ∩ up_to width)

module _ (s : Pairs) (xs : List (ℕ × ℕ)) (p q by width : ℕ) where
  pub moved_none : s ≡ with_moved s xs p q by width 0
  unfolding listed
  moved_none = same_pairs s (with_moved s xs p q by width 0) (λ a j. grind arith)

  -- a pair at p is moved
  here_at : (n j a b : ℕ) → (slice_index_or xs n (0, 0)).0 ≡ p → j ≡ (slice_index_or xs n (0, 0)).1 + by
      → (with_moved s xs p q by width n a b || ((a == q && b == j) && up_to width a b)) ≡ with_moved s xs p q by width (suc n) a b
  unfolding listed
  here_at n j a b e f = grind (arith, nat_tests)

  pub moved_here : (n j : ℕ) → (slice_index_or xs n (0, 0)).0 ≡ p → j ≡ (slice_index_or xs n (0, 0)).1 + by
      → (with_moved s xs p q by width n ∪ (only q j ∩ up_to width)) ≡ with_moved s xs p q by width (n + 1)
  moved_here n j e f =
      same_pairs _ _ (λ a b. here_at n j a b e f) ∙ ap (λ (x : ℕ). with_moved s xs p q by width x) (sym (add-one n))

  -- a pair elsewhere is not
  other_at : (n a j : ℕ) → ((slice_index_or xs n (0, 0)).0 ≢ p) → with_moved s xs p q by width n a j ≡ with_moved s xs p q by width (suc n) a j
  unfolding listed
  other_at n a j ne = grind (arith, nat_tests)

  pub moved_other : (n : ℕ) → ((slice_index_or xs n (0, 0)).0 ≢ p) → with_moved s xs p q by width n ≡ with_moved s xs p q by width (n + 1)
  moved_other n ne =
      same_pairs _ _ (λ a j. other_at n a j ne) ∙ ap (λ (x : ℕ). with_moved s xs p q by width x) (sym (add-one n))

  pub moved_rises : (m n : ℕ) → m ≤ n → with_moved s xs p q by width m ⊆ with_moved s xs p q by width n
  moved_rises m n h a j e = let r = listed_rises xs m n h p (j - by) in grind arith

  -- where there is no room for one of the moved pairs there is none for all
  pub refused_more : (now : Pairs) (n len j : ℕ) → n < len → now ≡ with_moved s xs p q by width n → (slice_index_or xs n (0, 0)).0 ≡ p → j ≡ (slice_index_or xs n (0, 0)).1 + by
      → (Short (now ∪ (only q j ∩ up_to width)) → ⊥) → Short (with_moved s xs p q by width len) → ⊥
  refused_more now n len j h e at f no_room all =
      no_room (short_fewer (now ∪ (only q j ∩ up_to width)) (with_moved s xs p q by width len)
      (λ a b x. moved_rises (n + 1) len (omega arith) a b
      (sym (ap (λ (v : Pairs). (v ∪ (only q j ∩ up_to width)) a b) e ∙ at_pair _ _ (moved_here n j at f) a b) ∙ x))
      all)
