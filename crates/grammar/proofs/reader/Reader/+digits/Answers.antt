-- One digit more.
use Rattle.std.proofs.Common.{◌≡◌, ◌+◌, ◌-◌, ◌*◌, subst, arith}
use Rattle.grammar.specs.Grammar.{Digits, digit}
use Rattle.grammar.proofs.reader.Reader.+digits.Goals as goal

pub returns-in-Some-48-to-57-clause-derives : goal.returns-in-Some-48-to-57-clause-derives
returns-in-Some-48-to-57-clause-derives t c =
    let s = c.args.self.now.text.now in
    let a = c.in-Some-48-to-57.ensures in
    let x : c.args.so_far * 10 + c.from.result ≡ c.args.so_far * 10 + (c.in-Some-48-to-57.d - 48) = omega arith in
    let r = digit a.1 (omega arith, omega arith) (rw x at c.digits.ensures.derives) in
    subst (λ k. Digits s k c.args.so_far c.args.at c.digits.result.1 c.digits.result.0) (omega arith) r
