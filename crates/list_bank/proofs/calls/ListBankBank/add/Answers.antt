use Rattle.std.proofs.Common.{ℕ, ap₂, ◌∙◌, arith}
use Rattle.widths.specs.Width.{width_in}
use Rattle.banks.specs.Pairs.{only, ◌∩◌}
use Rattle.list_bank.specs.Means.{up_to}
use Rattle.list_bank.proofs.Puts.{put_done, put_nothing, same_bound, only_away, away_past}
use Rattle.list_bank.proofs.calls.ListBankBank.add.Goals as goal

pub returns-in-Err : goal.returns-in-Err
returns-in-Err c = λ _.
    let b = c.args.self.now in
    let new = only c.args.p c.args.i in
    put_nothing b new (away_past b new c.args.p (omega (arith, c.in-Err.ensures)) (only_away c.args.p c.args.i))

pub returns-in-Ok : goal.returns-in-Ok
returns-in-Ok c = λ _.
    let b = c.args.self.now in
    let p = c.args.p in
    put_done b (only p c.args.i) (only c.in-Ok.place c.from.result ∩ up_to c.width_in-width.result) c.insert_up_to.result c.insert_up_to.new.self
    (ap₂ (λ (q j : ℕ). only q j ∩ up_to c.width_in-width.result) c.in-Ok.ensures.1 c.from.ensures
    ∙ same_bound (only p c.args.i) (width_in b.plan) p c.width_in-width.result c.width_in-width.ensures (only_away p c.args.i))
    c.insert_up_to.ensures
