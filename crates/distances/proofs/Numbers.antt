-- Where marks stand: each pair has a number of its own, and each number below the sum of the widths is one pair's.
use Rattle.std.proofs.Common.{◌≡◌, ℕ, zero, suc, ◌+◌, ◌-◌, ◌<◌, ◌≤◌, sym, ap, ◌∙◌, ⊎_elim, add-one, arith}
use Rattle.std.proofs.lemmas.Bool.{cases_lt}
use Rattle.widths.specs.declared.data.Widths.{Widths}
use Rattle.widths.specs.Width.{width_of, widths_of, base_of}
use Rattle.widths.proofs.Rows.{sum_more, base_room, base_apart}
use Rattle.distances.specs.declared.graph.Graph.{Graph}
use Rattle.distances.specs.Graphs.{Pair, number_in}

-- all marks stand within 4,096
pub total_room : (w : Widths) → base_of w 65 ≤ 4096
total_room w = let h = base_room w 65 in omega arith

-- a pair's mark stands before the end of the last place's
pub number_inner : (g : Graph) (p i : ℕ) → Pair g p i → number_in g p i < base_of (widths_of g.layout) 65
number_inner g p i d =
    let few = g.table.now.few in
    let d0 = d.0 in
    let d1 = d.1 in
    let d2 = d.2 in
    let h = base_apart (widths_of g.layout) p 65 (omega arith) in
    omega arith

-- two pairs with one number are the same
pub number_apart : (g : Graph) (p i q j : ℕ) → Pair g p i → Pair g q j → number_in g p i ≡ number_in g q j → (p ≡ q) × (i ≡ j)
number_apart g p i q j x y e =
    let w : Widths = widths_of g.layout in
    let x1 = x.1 in
    let x2 = x.2 in
    let y1 = y.1 in
    let y2 = y.2 in
    ⊎_elim
    (λ (h : p < q). let z : ⊥ = omega (arith, base_apart w p q h) in absurd z)
    (λ (h : q ≤ p).
    ⊎_elim
    (λ (k : q < p). let z : ⊥ = omega (arith, base_apart w q p k) in absurd z)
    (λ (k : p ≤ q).
    let m : p ≡ q = omega arith in
    let b : base_of w p ≡ base_of w q = ap (λ (v : ℕ). base_of w v) m in
    (m, omega arith))
    (cases_lt q p))
    (cases_lt p q)

-- a number below where place n begins is the number of a pair at a place below n
pub pair_of_number : (w : Widths) (n k : ℕ) → n ≤ 65 → k < base_of w n → (p : ℕ) × (i : ℕ) × (p < n) × (1 ≤ i) × (i ≤ width_of w p) × (k ≡ base_of w p + (i - 1))
pair_of_number w zero k h l = let z : ⊥ = omega arith in absurd z
pair_of_number w (suc n) k h l = ⊎_elim
    (λ (b : k < base_of w n). let (p, i, s, a, c, e) = pair_of_number w n k (omega arith) b in (p, i, omega arith, a, c, e))
    (λ (b : base_of w n ≤ k).
    let m : base_of w (suc n) ≡ base_of w n + width_of w n = ap (base_of w) (sym (add-one n)) ∙ sum_more w n (omega arith) in
    (n, suc (k - base_of w n), omega arith, omega arith, omega arith, omega arith))
    (cases_lt k (base_of w n))
