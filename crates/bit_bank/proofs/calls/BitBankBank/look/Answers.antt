use Rattle.std.proofs.Common.{◌≡◌, ℕ, ◌+◌, ◌-◌, ◌*◌, ◌<◌, min, take, drop, sym, ap, ◌∙◌, arith}
use Rattle.bits.specs.Bit.{bit_at}
use Rattle.bit_bank.specs.declared.rows.Row.{Row}
use Rattle.bit_bank.specs.Row.{row_of}
use Rattle.bit_bank.proofs.Parts.{bit_at_take, bit_at_drop}
use Rattle.bit_bank.proofs.Stand.{look_row, look_none}
use Rattle.bit_bank.proofs.calls.BitBankBank.look.Goals as goal

pub returns-in_default : goal.returns-in_default
returns-in_default c = λ _.
    let b = c.args.self.now in
    look_none b.rows b.front c.args.p c.args.low c.args.high c.in_default.ensures

pub returns : goal.returns
returns c = λ _.
    let b = c.args.self.now in
    let f = c.from.result in
    let h = c.from-3.result in
    let row = c.in-Some.ensures in
    let base = c.from.ensures ∙ ap (λ (r : Row). r.base) row.1 in
    let room = b.rows.room c.args.p row.0 in
    let few = b.rows.few in
    let high = c.from-3.ensures ∙ c.min.ensures ∙ ap (λ (r : Row). min c.args.high r.width) row.1 in
    let part : (x : ℕ) → x < c.from-3.result → bit_at (take (128 - c.from.result) (drop c.from.result b.front)) x ≡ bit_at b.front (64 * (row_of b.rows.list c.args.p).base + x) =
    λ x l. bit_at_take (drop f b.front) (128 - f) x (omega arith) ∙ bit_at_drop b.front f x ∙ ap (λ (y : ℕ). bit_at b.front (64 * y + x)) base in
    look_row b.rows b.front c.args.p c.args.low c.args.high c.from-2.result h c.any.result row.0 (c.from-2.ensures ∙ c.saturating_sub.ensures) high (
      (λ t. let x = c.any.ensures.0 t in (x.0, x.1, x.2, sym (part x.0 x.2) ∙ x.3)),
      (λ x. c.any.ensures.1 (x.0, x.1, x.2, part x.0 x.2 ∙ x.3)),
    )
