-- The members of a set of numbers below 64.
use Rattle.std.proofs.Common.{◌≡◌, ℕ, ◌^◌, ◌<◌, ◌≤◌, true, false, not, ◌&&◌, eqb, ap, ◌∙◌, ⊎_elim, arith}
use mathlib.Core.HLevel.{is_prop→PathP}
use native.Mathlib.Bridge.{le_prop}
use lib.Bits.{bit_and, and_le_r}
use lib.Count.{count_trailing_zeros}
use Rattle.std.proofs.lemmas.Bool.{cases_lt, cases_eq, both_ways}
use Rattle.std.proofs.lemmas.Bool.Decides.{nat_tests}
use Rattle.bits.specs.declared.set.Set64.{Set64}
use Rattle.bits.specs.Bit.{bit}
use Rattle.bits.specs.Members.{member, Least}
use Rattle.bits.proofs.Laws.{same_bits, bit_of_and, bit_past_word, some_bit_in, bit_zero, trailing_clear, trailing_set}

-- no number from 64 on is a member
pub member_past : (s : Set64) (k : ℕ) → 64 ≤ k → member s k ≡ false
unfolding member
member_past s k h = bit_past_word s.bits k s.small h

-- sets with the same members are equal
pub same_members : (a b : Set64) → ((k : ℕ) → member a k ≡ member b k) → a ≡ b
unfolding member
same_members a b h =
    let e = same_bits a.bits b.bits h in
    λ i. record { bits = e i; small = is_prop→PathP (λ j. e j < 2 ^ 64) (λ j. le_prop) a.small b.small i }

-- a set without one of its members is a smaller number
pub bits_fall : (s t : Set64) (k : ℕ) → ((j : ℕ) → member t j ≡ (member s j && not (eqb j k))) → member s k ≡ true → t.bits < s.bits
unfolding member
bits_fall s t k h has =
    let part : t.bits ≡ bit_and t.bits s.bits = same_bits t.bits (bit_and t.bits s.bits)
    (λ j. let x = bit_of_and t.bits s.bits j in let y = h j in grind (arith, nat_tests)) in
    let le = and_le_r t.bits s.bits in
    let gone : bit t.bits k ≡ false = let y = h k in grind (arith, nat_tests) in
    ⊎_elim
    (λ (e : t.bits ≡ s.bits). absurd (both_ways (bit t.bits k) gone (ap (λ (x : ℕ). bit x k) e ∙ has)))
    (λ (ne : t.bits ≡ s.bits → ⊥). omega arith)
    (cases_eq t.bits s.bits)

-- a set that is not empty has its number of trailing zeros as its least member
pub least_member : (s : Set64) → (((k : ℕ) → member s k ≡ false) → ⊥) → Least s (count_trailing_zeros 64 s.bits)
unfolding member
least_member s some =
    let b = some_bit_in s.bits s.small (λ z. some (λ k. ap (λ (x : ℕ). bit x k) z ∙ bit_zero k)) in
    let l : count_trailing_zeros 64 s.bits < 64 = ⊎_elim
    (λ (h : b.0 < count_trailing_zeros 64 s.bits). absurd (both_ways (bit s.bits b.0) (trailing_clear 64 s.bits b.0 h) b.2))
    (λ (h : count_trailing_zeros 64 s.bits ≤ b.0). let k = b.1 in omega arith)
    (cases_lt b.0 (count_trailing_zeros 64 s.bits)) in
    record { within = l; has = trailing_set 64 s.bits l; first = trailing_clear 64 s.bits }
