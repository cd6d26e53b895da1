-- The bits of a number under or, and, xor, shifts and masks; equal bits, equal numbers; the lowest set bit.
use Rattle.std.proofs.Common.{◌≡◌, ℕ, zero, suc, ◌+◌, ◌-◌, ◌*◌, ◌/◌, ◌%◌, ◌^◌, ◌<◌, ◌≤◌, Bool, true, false, not, ◌&&◌, ◌||◌, eqb, ltb, leb, sym, refl, ap, ◌∙◌, ⊎_elim, le_of_suc-le-suc, not-suc-le-zero, mod-lt, zero-lt-suc, mul_assoc, pow-suc, arith, pow_pos, pow_mono, pow-add, shr-shr}
use native.Mathlib.Nat.{mul-mod_left, div-eq_of_lt}
use lib.Arith.{bin_ind}
use lib.Bits.{bit_and, bit_or, bit_xor, or_shr, or_mod, and_shr, and_mod, xor_shr, xor_mod, and_mask, xor_add_and, and_le_l, and_le_r}
use lib.Count.{count_trailing_zeros, under}
use lib.Dec.{eqb-suc-zero}
use lib.Pow.{field, mod-mod-pow, shl-shr, ones_split, ones_lt, high}
use Rattle.std.proofs.lemmas.Nat.{one_shl}
use Rattle.std.proofs.lemmas.Bool.{cases_lt, cases_eq, both_ways, lt-ltb, le-ltb, le-leb, lt-leb}
use Rattle.std.proofs.lemmas.Bool.Decides.{nat_tests}
use Rattle.bits.specs.Bit.{bit}

-- the first, and not the second or the other way round
abbrev pub differs : Bool → Bool → Bool
differs true b = not b
differs false b = b

-- no two-digit number is below 2
no_two : {x : ℕ} → suc (suc x) < 2 → ⊥
no_two h = not-suc-le-zero (le_of_suc-le-suc (le_of_suc-le-suc h))

or_digit : (x y : ℕ) → x < 2 → y < 2 → eqb (bit_or x y) 1 ≡ (eqb x 1 || eqb y 1)
or_digit zero y hx hy = refl
or_digit (suc zero) zero hx hy = refl
or_digit (suc zero) (suc zero) hx hy = refl
or_digit (suc zero) (suc (suc y)) hx hy = absurd (no_two hy)
or_digit (suc (suc x)) y hx hy = absurd (no_two hx)

and_digit : (x y : ℕ) → x < 2 → y < 2 → eqb (bit_and x y) 1 ≡ (eqb x 1 && eqb y 1)
and_digit zero y hx hy = refl
and_digit (suc zero) zero hx hy = refl
and_digit (suc zero) (suc zero) hx hy = refl
and_digit (suc zero) (suc (suc y)) hx hy = absurd (no_two hy)
and_digit (suc (suc x)) y hx hy = absurd (no_two hx)

xor_digit : (x y : ℕ) → x < 2 → y < 2 → eqb (bit_xor x y) 1 ≡ differs (eqb x 1) (eqb y 1)
xor_digit zero y hx hy = refl
xor_digit (suc zero) zero hx hy = refl
xor_digit (suc zero) (suc zero) hx hy = refl
xor_digit (suc zero) (suc (suc y)) hx hy = absurd (no_two hy)
xor_digit (suc (suc x)) y hx hy = absurd (no_two hx)

-- the lowest digit of a quotient is below 2
digit_lt : (n : ℕ) → n % 2 < 2
digit_lt n = mod-lt n (zero-lt-suc 1)

pub bit_of_or : (a b k : ℕ) → bit (bit_or a b) k ≡ (bit a k || bit b k)
unfolding bit
bit_of_or a b k =
    ap (λ (x : ℕ). eqb (x % 2) 1) (or_shr a b k)
    ∙ ap (λ (x : ℕ). eqb x 1) (or_mod (a / 2 ^ k) (b / 2 ^ k) 1)
    ∙ or_digit (a / 2 ^ k % 2) (b / 2 ^ k % 2) (digit_lt (a / 2 ^ k)) (digit_lt (b / 2 ^ k))

pub bit_of_and : (a b k : ℕ) → bit (bit_and a b) k ≡ (bit a k && bit b k)
unfolding bit
bit_of_and a b k =
    ap (λ (x : ℕ). eqb (x % 2) 1) (and_shr a b k)
    ∙ ap (λ (x : ℕ). eqb x 1) (and_mod (a / 2 ^ k) (b / 2 ^ k) 1)
    ∙ and_digit (a / 2 ^ k % 2) (b / 2 ^ k % 2) (digit_lt (a / 2 ^ k)) (digit_lt (b / 2 ^ k))

pub bit_of_xor : (a b k : ℕ) → bit (bit_xor a b) k ≡ differs (bit a k) (bit b k)
unfolding bit
bit_of_xor a b k =
    ap (λ (x : ℕ). eqb (x % 2) 1) (xor_shr a b k)
    ∙ ap (λ (x : ℕ). eqb x 1) (xor_mod (a / 2 ^ k) (b / 2 ^ k) 1)
    ∙ xor_digit (a / 2 ^ k % 2) (b / 2 ^ k % 2) (digit_lt (a / 2 ^ k)) (digit_lt (b / 2 ^ k))

pub bit_zero : (k : ℕ) → bit 0 k ≡ false
unfolding bit
bit_zero k = ap (λ (x : ℕ). eqb (x % 2) 1) (div-eq_of_lt (pow_pos k))

-- a number below 2 ^ k has no bit k
pub bit_past : (w k : ℕ) → w < 2 ^ k → bit w k ≡ false
unfolding bit
bit_past w k h = ap (λ (x : ℕ). eqb (x % 2) 1) (div-eq_of_lt h)

-- a word has no bit from 64 on
pub bit_past_word : (w k : ℕ) → w < 2 ^ 64 → 64 ≤ k → bit w k ≡ false
bit_past_word w k h l = bit_past w k (let p : 2 ^ 64 ≤ 2 ^ k = pow_mono l in omega arith)

pub bit_shr : (w j k : ℕ) → bit (w / 2 ^ j) k ≡ bit w (j + k)
unfolding bit
bit_shr w j k = ap (λ (x : ℕ). eqb (x % 2) 1) (shr-shr w j k)

bit_mod_in : (w k j : ℕ) → bit (w % 2 ^ (suc j + k)) k ≡ bit w k
unfolding bit
bit_mod_in w k j =
    ap (λ (x : ℕ). eqb (x % 2) 1) (field w (suc j) k)
    ∙ ap (λ (x : ℕ). eqb (w / 2 ^ k % 2 ^ x % 2) 1) (let e : suc j ≡ j + 1 = omega arith in e)
    ∙ ap (λ (x : ℕ). eqb x 1) (mod-mod-pow (w / 2 ^ k) j 1)

-- the r lowest bits
pub bit_mod : (w r k : ℕ) → bit (w % 2 ^ r) k ≡ (ltb k r && bit w k)
bit_mod w r k = ⊎_elim
    (λ (h : k < r).
    let e : r ≡ suc (r - suc k) + k = omega arith in
    ap (λ (x : ℕ). bit (w % 2 ^ x) k) e ∙ bit_mod_in w k (r - suc k) ∙ sym (ap (λ (t : Bool). t && bit w k) (lt-ltb k r h)))
    (λ (h : r ≤ k).
    bit_past (w % 2 ^ r) k (let p : 2 ^ r ≤ 2 ^ k = pow_mono h in let q : w % 2 ^ r < 2 ^ r = mod-lt w (pow_pos r) in omega arith)
    ∙ sym (ap (λ (t : Bool). t && bit w k) (le-ltb k r h)))
    (cases_lt k r)

bit_mul_in : (w s k : ℕ) → bit (w * 2 ^ s) (s + k) ≡ bit w k
bit_mul_in w s k = sym (bit_shr (w * 2 ^ s) s k) ∙ ap (λ (x : ℕ). bit x k) (shl-shr w s)

bit_mul_low : (w k j : ℕ) → bit (w * 2 ^ (suc j + k)) k ≡ false
unfolding bit
bit_mul_low w k j =
    ap (λ (x : ℕ). eqb (w * x / 2 ^ k % 2) 1) (pow-add 2 (suc j) k)
    ∙ ap (λ (x : ℕ). eqb (x / 2 ^ k % 2) 1) (sym (mul_assoc w (2 ^ suc j) (2 ^ k)))
    ∙ ap (λ (x : ℕ). eqb (x % 2) 1) (shl-shr (w * 2 ^ suc j) k)
    ∙ ap (λ (x : ℕ). eqb (w * x % 2) 1) (pow-suc 2 j)
    ∙ ap (λ (x : ℕ). eqb (x % 2) 1) (sym (mul_assoc w (2 ^ j) 2))
    ∙ ap (λ (x : ℕ). eqb x 1) (mul-mod_left (w * 2 ^ j) 2)

-- a shift to the left, before it is cut to a word
pub bit_mul : (w s k : ℕ) → bit (w * 2 ^ s) k ≡ (leb s k && bit w (k - s))
bit_mul w s k = ⊎_elim
    (λ (h : k < s).
    let e : s ≡ suc (s - suc k) + k = omega arith in
    ap (λ (x : ℕ). bit (w * 2 ^ x) k) e ∙ bit_mul_low w k (s - suc k) ∙ sym (ap (λ (t : Bool). t && bit w (k - s)) (lt-leb s k h)))
    (λ (h : s ≤ k).
    let e : k ≡ s + (k - s) = omega arith in
    ap (λ (x : ℕ). bit (w * 2 ^ s) x) e ∙ bit_mul_in w s (k - s) ∙ sym (ap (λ (t : Bool). t && bit w (k - s)) (le-leb s k h)))
    (cases_lt k s)

-- `w << s` at 64 bits
pub bit_shl : (w s k : ℕ) → k < 64 → bit (w * 2 ^ s % 2 ^ 64) k ≡ (leb s k && bit w (k - s))
bit_shl w s k h =
    bit_mod (w * 2 ^ s) 64 k ∙ ap (λ (t : Bool). t && bit (w * 2 ^ s) k) (lt-ltb k 64 h) ∙ bit_mul w s k

-- `(w >> r) << r` at 64 bits: the bits from r on
pub bit_from : (w r k : ℕ) → k < 64 → bit (w / 2 ^ r * 2 ^ r % 2 ^ 64) k ≡ (leb r k && bit w k)
bit_from w r k h =
    bit_shl (w / 2 ^ r) r k h
    ∙ ⊎_elim
    (λ (l : k < r). ap (λ (t : Bool). t && bit (w / 2 ^ r) (k - r)) (lt-leb r k l) ∙ sym (ap (λ (t : Bool). t && bit w k) (lt-leb r k l)))
    (λ (l : r ≤ k). ap (λ (x : Bool). leb r k && x) (bit_shr w r (k - r) ∙ ap (λ (x : ℕ). bit w x) (let e : r + (k - r) ≡ k = omega arith in e)))
    (cases_lt k r)

-- `w & ((1 << r) - 1)`: the r lowest bits
pub bit_mask : (w r k : ℕ) → r < 64 → bit (bit_and w (1 * 2 ^ r % 2 ^ 64 - 1)) k ≡ (ltb k r && bit w k)
bit_mask w r k h =
    ap (λ (x : ℕ). bit (bit_and w (x - 1)) k) (one_shl r 64 h) ∙ ap (λ (x : ℕ). bit x k) (and_mask w r) ∙ bit_mod w r k

pub bit_one : (k : ℕ) → bit 1 k ≡ eqb k 0
unfolding bit
bit_one zero = refl
bit_one (suc k) =
    bit_past 1 (suc k) (let p : 2 ^ 1 ≤ 2 ^ suc k = pow_mono (let u : 1 ≤ suc k = omega arith in u) in omega arith) ∙ sym (eqb-suc-zero k)

-- `1 << n` at 64 bits: bit n alone
pub bit_one_shl : (n k : ℕ) → n < 64 → bit (1 * 2 ^ n % 2 ^ 64) k ≡ eqb k n
bit_one_shl n k h =
    let o = bit_one (k - n) in
    ap (λ (x : ℕ). bit x k) (one_shl n 64 h)
    ∙ ap (λ (x : ℕ). bit x k) (let e : 2 ^ n ≡ 1 * 2 ^ n = omega arith in e)
    ∙ bit_mul 1 n k
    ∙ grind (arith, nat_tests)

-- `(w >> k) & 1 == 1`
pub bit_tested : (w k : ℕ) → eqb (bit_and (w / 2 ^ k) 1) 1 ≡ bit w k
unfolding bit
bit_tested w k = ap (λ (x : ℕ). eqb x 1) (and_mask (w / 2 ^ k) 1)

ones_odd : (j : ℕ) → (2 ^ suc j - 1) % 2 ≡ 1
ones_odd j = let e = pow-suc 2 j in let p = pow_pos j in omega arith

bit_ones_in : (j k : ℕ) → bit (2 ^ (suc j + k) - 1) k ≡ true
unfolding bit
bit_ones_in j k =
    ap (λ (x : ℕ). eqb (x / 2 ^ k % 2) 1) (ones_split (suc j) k)
    ∙ ap (λ (x : ℕ). eqb (x % 2) 1) (high (2 ^ suc j - 1) k (ones_lt k))
    ∙ ap (λ (x : ℕ). eqb x 1) (ones_odd j)

-- `2 ^ n - 1`: the n lowest bits
pub bit_ones : (n k : ℕ) → bit (2 ^ n - 1) k ≡ ltb k n
bit_ones n k = ⊎_elim
    (λ (h : k < n).
    let e : n ≡ suc (n - suc k) + k = omega arith in
    ap (λ (x : ℕ). bit (2 ^ x - 1) k) e ∙ bit_ones_in (n - suc k) k ∙ sym (lt-ltb k n h))
    (λ (h : n ≤ k).
    bit_past (2 ^ n - 1) k (let p : 2 ^ n ≤ 2 ^ k = pow_mono h in let q = ones_lt n in omega arith) ∙ sym (le-ltb k n h))
    (cases_lt k n)

-- `(1 << n) - 1` at 64 bits
pub bit_ones_shl : (n k : ℕ) → n < 64 → bit (1 * 2 ^ n % 2 ^ 64 - 1) k ≡ ltb k n
bit_ones_shl n k h = ap (λ (x : ℕ). bit (x - 1) k) (one_shl n 64 h) ∙ bit_ones n k

-- `!w` at 64 bits turns each of the 64 bits
pub bit_not : (w k : ℕ) → w < 2 ^ 64 → bit (2 ^ 64 - 1 - w) k ≡ differs (bit w k) (ltb k 64)
bit_not w k h =
    let a : bit_and w (2 ^ 64 - 1) ≡ w % 2 ^ 64 = and_mask w 64 in
    let s = xor_add_and w (2 ^ 64 - 1) in
    let e : 2 ^ 64 - 1 - w ≡ bit_xor w (2 ^ 64 - 1) = omega arith in
    ap (λ (x : ℕ). bit x k) e ∙ bit_of_xor w (2 ^ 64 - 1) k ∙ ap (λ (t : Bool). differs (bit w k) t) (bit_ones 64 k)

-- the laws by which `simp` tells a bit of a word from the bits of its parts
pub ruleset bit-laws = (bit_one_shl, bit_ones_shl, bit_not, bit_of_or, bit_of_and, bit_of_xor, bit_zero)

-- a number that is not 0 has a bit
pub some_bit : (w : ℕ) → (w ≡ 0 → ⊥) → (k : ℕ) × (bit w k ≡ true)
unfolding bit
some_bit =
    bin_ind
    (λ (n : ℕ). (n ≡ 0 → ⊥) → (k : ℕ) × (bit n k ≡ true))
    (λ h. absurd (h refl))
    (λ n ih h.
    ⊎_elim
    (λ (e : n % 2 ≡ 1). (0, ap (λ (x : ℕ). eqb (x % 2) 1) (let d : n / 1 ≡ n = omega arith in d) ∙ ap (λ (x : ℕ). eqb x 1) e))
    (λ (e : n % 2 ≡ 1 → ⊥). let r = ih (λ z. h (omega arith)) in (1 + r.0, sym (bit_shr n 1 r.0) ∙ r.1))
    (cases_eq (n % 2) 1))

-- a word that is not 0 has a bit below 64
pub some_bit_in : (w : ℕ) → w < 2 ^ 64 → (w ≡ 0 → ⊥) → (k : ℕ) × (k < 64) × (bit w k ≡ true)
some_bit_in w h ne =
    let r = some_bit w ne in
    ⊎_elim
    (λ (l : r.0 < 64). (r.0, l, r.1))
    (λ (l : 64 ≤ r.0). absurd (both_ways (bit w r.0) (bit_past_word w r.0 h l) r.1))
    (cases_lt r.0 64)

-- a number without a bit is 0
pub no_bit : (w : ℕ) → ((k : ℕ) → bit w k ≡ false) → w ≡ 0
no_bit w h = ⊎_elim
    (λ (e : w ≡ 0). e)
    (λ (ne : w ≡ 0 → ⊥). let r = some_bit w ne in absurd (both_ways (bit w r.0) (h r.0) r.1))
    (cases_eq w 0)

differs_self : (b : Bool) → differs b b ≡ false
differs_self true = refl
differs_self false = refl

-- numbers with the same bits are equal
pub same_bits : (a b : ℕ) → ((k : ℕ) → bit a k ≡ bit b k) → a ≡ b
same_bits a b h =
    let z : bit_xor a b ≡ 0 = no_bit (bit_xor a b) (λ k. bit_of_xor a b k ∙ ap (λ (t : Bool). differs (bit a k) t) (sym (h k)) ∙ differs_self (bit a k)) in
    let s = xor_add_and a b in
    let l = and_le_l a b in
    let r = and_le_r a b in
    omega arith

-- words with the same bits below 64 are equal
pub same_bits_below : (a b : ℕ) → a < 2 ^ 64 → b < 2 ^ 64 → ((k : ℕ) → k < 64 → bit a k ≡ bit b k) → a ≡ b
same_bits_below a b ha hb h = same_bits a b (λ k. ⊎_elim
    (λ (l : k < 64). h k l)
    (λ (l : 64 ≤ k). bit_past_word a k ha l ∙ sym (bit_past_word b k hb l))
    (cases_lt k 64))

bit_low : (n : ℕ) → bit n 0 ≡ eqb (n % 2) 1
unfolding bit
bit_low n = ap (λ (x : ℕ). eqb (x % 2) 1) (let d : n / 1 ≡ n = omega arith in d)

bit_up : (n k : ℕ) → bit n (suc k) ≡ bit (n / 2) k
bit_up n k = ap (bit n) (let e : suc k ≡ 1 + k = omega arith in e) ∙ sym (bit_shr n 1 k)

trailing_odd : (k n : ℕ) → n % 2 ≡ 1 → count_trailing_zeros (suc k) n ≡ 0
unfolding count_trailing_zeros
trailing_odd k n e = ap (λ (x : ℕ). under x (count_trailing_zeros k (n / 2))) e

trailing_even : (k n : ℕ) → n % 2 ≡ 0 → count_trailing_zeros (suc k) n ≡ suc (count_trailing_zeros k (n / 2))
unfolding count_trailing_zeros
trailing_even k n e = ap (λ (x : ℕ). under x (count_trailing_zeros k (n / 2))) e

-- below the lowest set bit no bit is set
pub trailing_clear : (k n j : ℕ) → j < count_trailing_zeros k n → bit n j ≡ false
unfolding count_trailing_zeros
trailing_clear zero n j h = absurd (not-suc-le-zero h)
trailing_clear (suc k) n j h = ⊎_elim
    (λ (e : n % 2 ≡ 1). let z = trailing_odd k n e in let f : ⊥ = omega arith in absurd f)
    (λ (e : n % 2 ≡ 1 → ⊥).
    let d : n % 2 ≡ 0 = omega arith in
    let z = trailing_even k n d in
    clear_step k n j d (trailing_clear k (n / 2)) (omega arith))
    (cases_eq (n % 2) 1)
  where
    clear_step : (k n j : ℕ) → n % 2 ≡ 0 → ((i : ℕ) → i < count_trailing_zeros k (n / 2) → bit (n / 2) i ≡ false) → j < suc (count_trailing_zeros k (n / 2)) → bit n j ≡ false
    clear_step k n zero d ih l = bit_low n ∙ ap (λ (x : ℕ). eqb x 1) d
    clear_step k n (suc i) d ih l = bit_up n i ∙ ih i (le_of_suc-le-suc l)

-- where a number has a bit among its k lowest, the bit above its trailing zeros is set
pub trailing_set : (k n : ℕ) → count_trailing_zeros k n < k → bit n (count_trailing_zeros k n) ≡ true
unfolding count_trailing_zeros
trailing_set zero n h = absurd (not-suc-le-zero h)
trailing_set (suc k) n h = ⊎_elim
    (λ (e : n % 2 ≡ 1). ap (bit n) (trailing_odd k n e) ∙ bit_low n ∙ ap (λ (x : ℕ). eqb x 1) e)
    (λ (e : n % 2 ≡ 1 → ⊥).
    let d : n % 2 ≡ 0 = omega arith in
    let z = trailing_even k n d in
    ap (bit n) z ∙ bit_up n (count_trailing_zeros k (n / 2)) ∙ trailing_set k (n / 2) (omega arith))
    (cases_eq (n % 2) 1)

-- the laws of `n < 64 && (w >> n) & 1 == 1`
pub ruleset tested_laws = (bit_tested, bit_past_word)

-- the laws of `w & !v`
pub ruleset difference_laws = (bit_of_and, bit_not, bit_past_word)
