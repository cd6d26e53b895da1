use Rattle.std.proofs.Common.{◌≡◌, ℕ, ◌-◌, ◌*◌, ◌%◌, ◌^◌, ◌<◌, ◌&&◌, ltb, Some, None, Option, ap, ◌∙◌, arith, rules}
use Rattle.std.specs.Option.{MatchOption, SomeIff}
use Rattle.std.proofs.lemmas.Bool.Decides.{nat_tests}
use Rattle.bits.specs.Bit.{bit}
use Rattle.bits.specs.Members.{member}
use Rattle.bits.proofs.Laws.{bit_ones, bit_ones_shl}
use Rattle.bits.proofs.set.Set64.below.Goals as goal

-- All ones where the bit of the end is past the word, else the ones below it.
ones : (P : ℕ → Type 0) (o : Option ℕ) (n w k : ℕ) → SomeIff o (n < 64) (1 * 2 ^ n % 2 ^ 64) → MatchOption o (w ≡ 18446744073709551615) P
    → ((end : ℕ) → P end → w ≡ end - 1) → bit w k ≡ (ltb k n && ltb k 64)
ones P None n w k high e f = ap (λ v. bit v k) e ∙ bit_ones 64 k ∙ grind (arith, nat_tests)
ones P (Some end) n w k (low, is) e f = ap (λ v. bit v k) (f end e) ∙ ap (λ v. bit (v - 1) k) is ∙ bit_ones_shl n k low ∙ grind (arith, nat_tests)

pub returns : goal.returns
unfolding member
returns c k = ones _ c.checked_shl.result c.args.n c.map_or.result k (rw c.from.ensures at c.checked_shl.ensures) c.map_or.ensures (λ end h. search rules)
