use Rattle.std.proofs.Common.{◌≡◌, ℕ, ◌+◌, ◌*◌, ◌/◌, ◌%◌, ◌||◌, eqb, ap, ◌∙◌, arith}
use Rattle.bits.specs.Bit.{bit_at}
use Rattle.bits.proofs.Words.{bit_at_put}
use Rattle.bit_bank.proofs.words.put.Goals as goal

pub returns : goal.returns
returns c = λ a.
    let k : ℕ = c.args.k in
    let from : ℕ = c.args.from in
    let e : 64 * (c.args.from + c.args.k / 64) + c.args.k % 64 ≡ 64 * c.args.from + c.args.k = omega arith in
    bit_at_put c.args.words.now (from + k / 64) (k % 64) a (omega arith) (omega arith) ∙ ap (λ (x : ℕ). bit_at c.args.words.now a || eqb a x) e
