-- A list of words read as one long row of bits.
use Rattle.std.proofs.Common.{◌≡◌, ℕ, ◌+◌, ◌-◌, ◌*◌, ◌/◌, ◌%◌, ◌^◌, ◌<◌, ◌||◌, eqb, List, length, get_or, set, sym, refl, ap, ◌∙◌, ap₂, ⊎_elim, arith, get_or-set_other, get_or-set_same}
use lib.Bits.{bit_or}
use Rattle.std.proofs.lemmas.Bool.{cases_eq}
use Rattle.std.proofs.lemmas.Bool.Decides.{nat_tests}
use Rattle.bits.specs.Bit.{bit, bit_at}
use Rattle.bits.proofs.Laws.{bit_of_or, bit_shl, bit_one}

pub bit_at_is : (ws : List ℕ) (a : ℕ) → bit_at ws a ≡ bit (get_or ws (a / 64) 0) (a % 64)
unfolding bit_at
bit_at_is ws a = refl

-- bit c of the word m
pub bit_at_word : (ws : List ℕ) (m c : ℕ) → c < 64 → bit_at ws (64 * m + c) ≡ bit (get_or ws m 0) c
unfolding bit_at
bit_at_word ws m c h =
    let q : (64 * m + c) / 64 ≡ m = omega arith in
    let r : (64 * m + c) % 64 ≡ c = omega arith in
    ap₂ (λ (x y : ℕ). bit (get_or ws x 0) y) q r

-- a bit of the word that was written
pub bit_at_set_same : (ws : List ℕ) (m v a : ℕ) → m < length ws → a / 64 ≡ m → bit_at (set ws m v) a ≡ bit v (a % 64)
bit_at_set_same ws m v a h e =
    bit_at_is (set ws m v) a
    ∙ ap (λ (x : ℕ). bit (get_or (set ws m v) x 0) (a % 64)) e
    ∙ ap (λ (x : ℕ). bit x (a % 64)) (get_or-set_same ws m v 0 h)

-- a bit of any other word
pub bit_at_set_other : (ws : List ℕ) (m v a : ℕ) → (a / 64 ≡ m → ⊥) → bit_at (set ws m v) a ≡ bit_at ws a
bit_at_set_other ws m v a ne =
    bit_at_is (set ws m v) a ∙ ap (λ (x : ℕ). bit x (a % 64)) (get_or-set_other ws m (a / 64) v 0 ne) ∙ sym (bit_at_is ws a)

-- `ws[m] |= 1 << b` sets one bit
pub bit_at_put : (ws : List ℕ) (m b a : ℕ) → m < length ws → b < 64
    → bit_at (set ws m (bit_or (get_or ws m 0) (1 * 2 ^ b % 2 ^ 64))) a ≡ (bit_at ws a || eqb a (64 * m + b))
bit_at_put ws m b a lm lb = ⊎_elim
    (λ (e : a / 64 ≡ m).
    let l : a % 64 < 64 = omega arith in
    let old : bit (get_or ws m 0) (a % 64) ≡ bit_at ws a = sym (bit_at_is ws a ∙ ap (λ (x : ℕ). bit (get_or ws x 0) (a % 64)) e) in
    let new = bit_shl 1 b (a % 64) l in
    let one = bit_one (a % 64 - b) in
    bit_at_set_same ws m _ a lm e
    ∙ bit_of_or (get_or ws m 0) (1 * 2 ^ b % 2 ^ 64) (a % 64)
    ∙ ap₂ ◌||◌ old (let t : bit (1 * 2 ^ b % 2 ^ 64) (a % 64) ≡ eqb a (64 * m + b) = grind (arith, nat_tests) in t))
    (λ (ne : a / 64 ≡ m → ⊥). bit_at_set_other ws m _ a ne ∙ grind (arith, nat_tests))
    (cases_eq (a / 64) m)
