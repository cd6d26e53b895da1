use Rattle.std.proofs.Common.{refl, arith}
use Rattle.std.proofs.lemmas.Bool.Decides.{nat_tests}
use Rattle.list_bank.proofs.Inserts.{same_there, too_many, listed_after}
use Rattle.list_bank.proofs.pairs.PairList.insert.Goals as goal

pub returns-in-Ok : goal.returns-in-Ok
returns-in-Ok c = same_there c.args.self.now c.in-Ok.field-0 c.args.p c.args.i c.in-Ok.ensures

pub returns-in-Err : goal.returns-in-Err
returns-in-Err c =
    let gap = c.in-Err.ensures in
    let v = c.is_full.ensures.value in
    let t = c.if-is_full.true in
    (refl, too_many c.args.self.now c.args.p c.args.i c.in-Err.field-0 gap.bound gap.below gap.above (grind (arith, nat_tests)), refl)

pub returns-in-Err-2 : goal.returns-in-Err-2
returns-in-Err-2 c =
    let gap = c.in-Err.ensures in
    listed_after c.args.self.now c.args.p c.args.i c.in-Err.field-0 gap.bound gap.below gap.above c.insert.new.self.items c.insert.ensures.items
