use Rattle.std.proofs.Common.{ℕ, ◌*◌, ◌<◌, ◌≤◌, List, ap, ◌∙◌, ⊎_elim, arith}
use Rattle.std.proofs.lemmas.Bool.{cases_lt}
use Rattle.std.proofs.lemmas.Bool.Decides.{nat_tests}
use Rattle.std.proofs.lemmas.List.{length-take-le}
use Rattle.bits.specs.Bit.{bit_at}
use Rattle.bit_bank.proofs.Parts.{bit_at_take, bit_at_written}
use Rattle.bit_bank.proofs.words.copy.Goals as goal

pub returns : goal.returns
returns c = λ a.
    let n : ℕ = c.args.n in
    let l = length-take-le c.args.n c.args.dst.now (let e = c.told-dst in omega arith) in
    let w = bit_at_written c.args.dst.now c.copy_from_slice.new.self c.args.n a (c.copy_from_slice.ensures.len ∙ l) in
    let s = ap (λ (ws : List ℕ). bit_at ws a) c.copy_from_slice.ensures.after in
    ⊎_elim
    (λ (h : a < 64 * n). let t = bit_at_take c.args.src.now c.args.n a h in grind (arith, nat_tests))
    (λ (h : 64 * n ≤ a). grind (arith, nat_tests))
    (cases_lt a (64 * n))
