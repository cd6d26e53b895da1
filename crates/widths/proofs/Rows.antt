-- Lists of widths: reading past the end, the list of the start alone, and where rows lie.
use Rattle.std.proofs.Common.{◌≡◌, ℕ, zero, suc, ◌+◌, ◌<◌, ◌≤◌, cond, eqb, List, length, get_or, take, set, replicate, Some, None, sum, Option, refl, ap, ◌∙◌, ⊎_elim, arith, get_or-set_other}
use Rattle.std.proofs.lemmas.List.{get_or_past, get_or-replicate, length-replicate, take-take}
use Rattle.std.proofs.lemmas.List.Sums.{sum_by_more, sum_by-take-le}
use Rattle.std.proofs.lemmas.Bool.{cases_lt}
use Rattle.std.proofs.lemmas.Bool.Decides.{nat_tests}
use Rattle.widths.specs.declared.data.Widths.{Widths}
use Rattle.widths.specs.Width.{width_of, width_in, base_of}

-- no place has a width
pub get_or_zeros : (n p : ℕ) → ◌≡◌ {A = ℕ} (get_or (replicate n 0) p 0) 0
get_or_zeros n p = ⊎_elim
    (λ (h : p < n). get_or-replicate n p 0 0 h)
    (λ (h : n ≤ p). get_or_past (replicate n 0) p 0 (let e : length (replicate {A = ℕ} n 0) ≡ n = length-replicate n 0 in omega arith))
    (cases_lt p n)

-- the start alone has a width
pub get_or_start : (p : ℕ) → ◌≡◌ {A = ℕ} (get_or (set (replicate 65 0) 0 1) p 0) (cond (eqb p 0) 1 0)
get_or_start zero = refl
get_or_start (suc p) = get_or-set_other (replicate 65 0) 0 (suc p) 1 0 (omega arith) ∙ get_or_zeros 65 (suc p) ∙ grind (arith, nat_tests)

-- a number from 65 on is no place
pub width_past : (w : Widths) (p : ℕ) → 65 ≤ p → width_of w p ≡ 0
width_past w p h = get_or_past w.widths p 0 (let e = w.long in omega arith)

pub width_in_past : (plan : Option Widths) (p : ℕ) → 65 ≤ p → width_in plan p ≡ 0
width_in_past None p h = refl
width_in_past (Some w) p h = width_past w p h

-- one more width
pub sum_more : (w : Widths) (p : ℕ) → p < 65 → base_of w (p + 1) ≡ base_of w p + width_of w p
sum_more w p h = sum_by_more (λ x. x) w.widths p 0 (let e = w.long in omega arith)

sum_rises : (ws : List ℕ) (p q : ℕ) → p ≤ q → sum (take p ws) ≤ sum (take q ws)
sum_rises ws p q h =
    let e : sum (take p (take q ws)) ≡ sum (take p ws) = ap sum (take-take p q ws h) in
    let l = sum_by-take-le (λ x. x) (take q ws) p in
    omega arith

-- the row of a place ends within 4,096
pub base_room : (w : Widths) (p : ℕ) → base_of w p + width_of w p ≤ 4096
base_room w p = ⊎_elim
    (λ (h : p < 65).
    let m = sum_more w p h in
    let t = sum_by-take-le (λ x. x) w.widths (p + 1) in
    let u = w.total in
    omega arith)
    (λ (h : 65 ≤ p).
    let t = sum_by-take-le (λ x. x) w.widths p in
    let z = width_past w p h in
    let u = w.total in
    omega arith)
    (cases_lt p 65)

-- the row of a place ends where the row of a later one begins, or before
pub base_apart : (w : Widths) (p q : ℕ) → p < q → base_of w p + width_of w p ≤ base_of w q
base_apart w p q h = ⊎_elim
    (λ (l : p < 65).
    let m = sum_more w p l in
    let t = sum_rises w.widths (p + 1) q (omega arith) in
    omega arith)
    (λ (l : 65 ≤ p).
    let t = sum_rises w.widths p q (omega arith) in
    let z = width_past w p l in
    omega arith)
    (cases_lt p 65)
