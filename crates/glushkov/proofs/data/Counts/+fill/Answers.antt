use Rattle.std.proofs.Common.{arith}
use Rattle.glushkov.proofs.CountLaws.{pair_size, pair_counts}
use Rattle.glushkov.proofs.data.Counts.+fill.Goals as goal

pub returns-in-Cat : goal.returns-in-Cat
returns-in-Cat t c =
    let s = pair_size c.in-Cat.is in
    let ua = rw c.deref-in-Cat.ensures at c.fill-middle.ensures.upto in
    let ca = rw c.deref-in-Cat.ensures at c.fill-middle.ensures.counts in
    let ub = rw c.deref-in-Cat-2.ensures at c.fill-in-Cat.ensures.upto in
    let cb = rw c.deref-in-Cat-2.ensures at c.fill-in-Cat.ensures.counts in
    record { upto = omega (arith, s, ua, ub); counts = pair_counts c.args.offset _ c.args.bounds _ _ _ c.in-Cat.is ua ca cb }
