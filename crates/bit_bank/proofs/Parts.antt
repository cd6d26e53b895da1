-- The bits of a part of some words, and of words whose first ones are written.
use Rattle.std.proofs.Common.{◌≡◌, ℕ, ◌+◌, ◌-◌, ◌*◌, ◌/◌, ◌%◌, ◌<◌, ◌≤◌, false, cond, ltb, List, ◌++◌, length, take, drop, replicate, get_or, sym, ap, ◌∙◌, ap₂, ⊎_elim, arith}
use Rattle.std.proofs.lemmas.Bool.{cases_lt}
use Rattle.std.proofs.lemmas.Bool.Decides.{nat_tests}
use Rattle.std.proofs.lemmas.List.{get_or-drop, get_or-take, get_or_append_left, get_or-append_right}
use Rattle.bits.specs.Bit.{bit, bit_at}
use Rattle.bits.proofs.Laws.{bit_zero}
use Rattle.bits.proofs.Words.{bit_at_is}
use Rattle.widths.proofs.Rows.{get_or_zeros}

-- words that are 0 have no bit
pub bit_at_zeros : (n a : ℕ) → bit_at (replicate n 0) a ≡ false
bit_at_zeros n a = bit_at_is (replicate n 0) a ∙ ap (λ (x : ℕ). bit x (a % 64)) (get_or_zeros n (a / 64)) ∙ bit_zero (a % 64)

pub bit_at_take : (ws : List ℕ) (n a : ℕ) → a < 64 * n → bit_at (take n ws) a ≡ bit_at ws a
bit_at_take ws n a h =
    bit_at_is (take n ws) a ∙ ap (λ (x : ℕ). bit x (a % 64)) (get_or-take n ws (a / 64) 0 (omega arith)) ∙ sym (bit_at_is ws a)

pub bit_at_drop : (ws : List ℕ) (n a : ℕ) → bit_at (drop n ws) a ≡ bit_at ws (64 * n + a)
bit_at_drop ws n a =
    let q : n + a / 64 ≡ (64 * n + a) / 64 = omega arith in
    let r : a % 64 ≡ (64 * n + a) % 64 = omega arith in
    bit_at_is (drop n ws) a
    ∙ ap (λ (x : ℕ). bit x (a % 64)) (get_or-drop n ws (a / 64) 0)
    ∙ ap₂ (λ (x y : ℕ). bit (get_or ws x 0) y) q r
    ∙ sym (bit_at_is ws (64 * n + a))

-- the first n words are those of xs
pub bit_at_written : (ws xs : List ℕ) (n a : ℕ) → length xs ≡ n → bit_at (xs ++ drop n ws) a ≡ cond (ltb a (64 * n)) (bit_at xs a) (bit_at ws a)
bit_at_written ws xs n a l = ⊎_elim
    (λ (h : a < 64 * n).
    let e : bit_at (xs ++ drop n ws) a ≡ bit_at xs a =
    bit_at_is (xs ++ drop n ws) a
    ∙ ap (λ (x : ℕ). bit x (a % 64)) (get_or_append_left xs (drop n ws) 0 (a / 64) (omega arith))
    ∙ sym (bit_at_is xs a) in
    grind (arith, nat_tests))
    (λ (h : 64 * n ≤ a).
    let s : n + (a / 64 - n) ≡ a / 64 = omega arith in
    let e : bit_at (xs ++ drop n ws) a ≡ bit_at ws a =
    bit_at_is (xs ++ drop n ws) a
    ∙ ap (λ (x : ℕ). bit x (a % 64)) (get_or-append_right xs (drop n ws) n (a / 64) 0 l (omega arith) ∙ get_or-drop n ws (a / 64 - n) 0)
    ∙ ap (λ (x : ℕ). bit (get_or ws x 0) (a % 64)) s
    ∙ sym (bit_at_is ws a) in
    grind (arith, nat_tests))
    (cases_lt a (64 * n))
