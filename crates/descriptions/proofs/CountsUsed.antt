-- What the widths of a table add to.
use Rattle.std.proofs.Common.{◌≡◌, ℕ, zero, suc, ◌+◌, ◌≤◌, map, sum, refl, ap, ◌∙◌, arith}
use Rattle.std.specs.List.{range_with_len}
use Rattle.std.proofs.lemmas.List.Sums.{sum_by-cons}
use Rattle.std.proofs.lemmas.Bool.Decides.{nat_tests}
use Rattle.automata.specs.Language.{Tree}
use Rattle.automata.specs.Places.{size, low, width}
use Rattle.checks.specs.Widths.{sum_behind, widths_of}
use Rattle.widths.specs.Width.{width_of}
use Rattle.tables.specs.Tables.{TableOf, low_of}
use Rattle.tables.specs.declared.table.Table.{Table}

-- Equal widths add to equal sums.
same_sum : (f g : ℕ → ℕ) (n : ℕ) → ((p : ℕ) → p ≤ n → f p ≡ g p) → sum_behind f 0 n ≡ sum_behind g 0 n
same_sum f g zero h = refl
same_sum f g (suc n) h =
    let here = h (0 + suc n) (omega arith) in
    let before = same_sum f g n (λ p l. h p (omega arith)) in
    omega (arith, here, before)

-- The first width of a sum, and the others.
sum_first : (f : ℕ → ℕ) (o n : ℕ) → sum_behind f o (suc n) ≡ f (o + 1) + sum_behind f (o + 1) n
sum_first f o zero = omega arith
sum_first f o (suc n) =
    let last : o + suc (suc n) ≡ (o + 1) + suc n = omega arith in
    omega (arith, sum_first f o n, ap f last)

-- The widths of a range of places, one by one.
sum_range : (f : ℕ → ℕ) (o n : ℕ) → sum (map f (range_with_len (o + 1) n)) ≡ sum_behind f o n
sum_range f o zero = refl
sum_range f o (suc n) = omega (arith, sum_by-cons (λ x. x) (f (o + 1)) (map f (range_with_len (o + 1 + 1) n)), sum_range f (o + 1) n, sum_first f o n)

pub sum_from_start : (f : ℕ → ℕ) (n : ℕ) → sum (map f (range_with_len 0 (n + 1))) ≡ f 0 + sum_behind f 0 n
sum_from_start f n =
    let all : n + 1 ≡ suc n = omega arith in
    ap (λ k. sum (map f (range_with_len 0 k))) all ∙ sum_by-cons (λ x. x) (f 0) (map f (range_with_len 1 n)) ∙ ap (λ k. f 0 + k) (sum_range f 0 n)

-- The width and the low of a place are those of the tree.
pub width_told : (e : Tree) (t : Table) (p : ℕ) → TableOf e t → p ≤ size e → width_of t.widths p ≡ width e 0 p
width_told e t p of h = let w = of.widths p in grind (arith, nat_tests)

pub low_told : (e : Tree) (t : Table) (p : ℕ) → TableOf e t → p ≤ size e → low_of t p ≡ low e 0 p
low_told e t p of h = let w = of.lows p in grind (arith, nat_tests)

pub counts_told : (e : Tree) (t : Table) → TableOf e t → width_of t.widths 0 + sum_behind (width_of t.widths) 0 t.places ≡ widths_of e
counts_told e t of =
    let start = width_told e t 0 of (omega arith) in
    let rest = same_sum (width_of t.widths) (width e 0) (size e) (λ p l. width_told e t p of l) in
    let many : sum_behind (width_of t.widths) 0 t.places ≡ sum_behind (width_of t.widths) 0 (size e) = ap (sum_behind (width_of t.widths) 0) of.places in
    omega (arith, start, rest, many)
