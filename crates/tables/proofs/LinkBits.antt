-- A link's bit of a mask, tested by `&`.
use Rattle.std.proofs.Common.{◌≡◌, ℕ, ◌-◌, ◌*◌, ◌^◌, false, not, eqb, sym, refl, ap, ◌∙◌, inl, inr, one-mul, arith}
use lib.Bits.{bit_and}
use Rattle.std.proofs.lemmas.Bool.{cases_eq}
use Rattle.std.proofs.lemmas.Bool.Decides.{nat_tests}
use Rattle.bits.specs.Bit.{bit}
use Rattle.bits.proofs.Laws.{bit_of_and, bit_mul, bit_one, bit_zero, some_bit}
use Rattle.tables.specs.declared.links.Link.{Link}
use Rattle.tables.specs.declared.links.Link.TheVariants.{Within, Next, Cross}
use Rattle.tables.specs.Masks.{has_link, mask_of}

bit_power : (k i : ℕ) → bit (2 ^ k) i ≡ eqb i k
bit_power k i =
    let e : bit (2 ^ k) i ≡ bit (1 * 2 ^ k) i = ap (λ v. bit v i) (sym (one-mul (2 ^ k))) in
    let h = bit_mul 1 k i in
    let o = bit_one (i - k) in
    grind (arith, nat_tests)

-- A mask has a common bit with 2 ^ k exactly where it has bit k.
pub tested_bit : (m n k : ℕ) → n ≡ 2 ^ k → not (eqb (bit_and m n) 0) ≡ bit m k
tested_bit m n k e = elim (cases_eq (bit_and m n) 0) [
  | inl z ↦
      let h = bit_of_and m n k in
      let o : bit n k ≡ eqb k k = ap (λ v. bit v k) e ∙ bit_power k k in
      let x : bit (bit_and m n) k ≡ false = ap (λ v. bit v k) z ∙ bit_zero k in
      grind (arith, nat_tests)
  | inr x ↦
      let (i, h) = some_bit (bit_and m n) x in
      let a = bit_of_and m n i in
      let o : bit n i ≡ eqb i k = ap (λ v. bit v i) e ∙ bit_power k i in
      grind (arith, nat_tests)
]

pub tested_link : (m : ℕ) (link : Link) → not (eqb (bit_and m (mask_of link)) 0) ≡ has_link m link
tested_link m Within = tested_bit m 1 0 refl
tested_link m Next = tested_bit m 2 1 refl
tested_link m Cross = tested_bit m 4 2 refl

pub ruleset link_laws = (tested_bit, tested_link)
