-- The word with bit n alone, where there is such a bit.
use Rattle.std.proofs.Common.{◌≡◌, ℕ, ◌*◌, ◌%◌, ◌^◌, ◌<◌, ◌&&◌, eqb, ltb, Some, None, Option, ap, ◌∙◌, arith}
use Rattle.std.specs.Prelude.{unwrap_or}
use Rattle.std.specs.Option.{SomeIff}
use Rattle.std.proofs.lemmas.Bool.Decides.{nat_tests}
use Rattle.bits.specs.Bit.{bit}
use Rattle.bits.proofs.Laws.{bit_zero, bit_one_shl}

pub bit_shifted : (o : Option ℕ) (n k : ℕ) → SomeIff o (n < 64) (1 * 2 ^ n % 2 ^ 64) → bit (unwrap_or o 0) k ≡ (eqb k n && ltb k 64)
bit_shifted None n k h = bit_zero k ∙ grind (arith, nat_tests)
bit_shifted (Some x) n k (l, e) = ap (λ v. bit v k) e ∙ bit_one_shl n k l ∙ grind (arith, nat_tests)
