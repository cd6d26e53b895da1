use Rattle.std.proofs.Common.{rules, ℕ, ◌||◌, eqb, ap, ◌∙◌, arith}
use Rattle.std.proofs.lemmas.Bool.Decides.{nat_tests}
use Rattle.bits.specs.Bit.{bit_at}
use Rattle.banks.specs.Pairs.{only}
use Rattle.bit_bank.specs.declared.rows.Row.{Row}
use Rattle.bit_bank.specs.Means.{row_widths}
use Rattle.bit_bank.proofs.Stand.{width_past, inside, put_pair}
use Rattle.bit_bank.proofs.Puts.{put_done, put_nothing, left_out}
use Rattle.bit_bank.proofs.calls.BitBankBank.add.Goals as goal

pub returns-in-Some : goal.returns-in-Some
returns-in-Some c = λ _.
    let b = c.args.self.now in
    let p = c.args.p in
    let i = c.args.i in
    let row = c.in-Some.ensures.1 in
    let has = c.has.ensures in
    let base = ap (λ (r : Row). r.base) row in
    let width = ap (λ (r : Row). r.width) row in
    let at = c.from.ensures in
    let count = c.from-in-Some.ensures in
    put_done b (only p i) c.put.new.words
    (put_pair b.rows b.back c.put.new.words p i (inside b.rows p i (let t = c.if-has.true in grind (arith, nat_tests)))
    (λ a. c.put.ensures a ∙ ap (λ (x : ℕ). bit_at b.back a || eqb a x) (omega arith)))

pub returns-in_default : goal.returns-in_default
returns-in_default c = λ _.
    let b = c.args.self.now in
    let row = c.in-Some.ensures.1 in
    let has = c.has.ensures in
    let width = ap (λ (r : Row). r.width) row in
    put_nothing b (only c.args.p c.args.i) (left_out (row_widths b.rows) c.args.p c.args.i (let t = c.if-has.false in grind (arith, nat_tests)))

pub returns-in_default-2 : goal.returns-in_default-2
returns-in_default-2 c = λ _.
    let b = c.args.self.now in
    let z = width_past b.rows c.args.p (let r = c.in_default.is in let e = c.get.ensures in search rules) in
    put_nothing b (only c.args.p c.args.i) (left_out (row_widths b.rows) c.args.p c.args.i (grind (arith, nat_tests)))
