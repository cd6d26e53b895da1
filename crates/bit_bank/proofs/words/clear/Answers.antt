use Rattle.std.proofs.Common.{◌≡◌, ℕ, ◌*◌, ◌/◌, ◌%◌, ◌<◌, ◌≤◌, false, ap, ◌∙◌, ⊎_elim, arith}
use Rattle.std.proofs.lemmas.Bool.{cases_lt}
use Rattle.std.proofs.lemmas.Bool.Decides.{nat_tests}
use Rattle.std.proofs.lemmas.List.{length-take-le}
use Rattle.bits.specs.Bit.{bit, bit_at}
use Rattle.bits.proofs.Laws.{bit_zero}
use Rattle.bits.proofs.Words.{bit_at_is}
use Rattle.bit_bank.proofs.Parts.{bit_at_written}
use Rattle.bit_bank.proofs.words.clear.Goals as goal

pub returns : goal.returns
returns c = λ a.
    let l = length-take-le c.args.n c.args.words.now (let e = c.told-words in omega arith) in
    let items = c.loop-word.word-items in
    let w = bit_at_written c.args.words.now items c.args.n a (c.loop-word.auto.word-items ∙ l) in
    ⊎_elim
    (λ (h : a < 64 * c.args.n).
    let z : bit_at c.loop-word.word-items a ≡ false =
    bit_at_is items a ∙ ap (λ (x : ℕ). bit x (a % 64)) (c.loop-word.invariant (a / 64) (omega arith)) ∙ bit_zero (a % 64) in
    grind (arith, nat_tests))
    (λ (h : 64 * c.args.n ≤ a). grind (arith, nat_tests))
    (cases_lt a (64 * c.args.n))
