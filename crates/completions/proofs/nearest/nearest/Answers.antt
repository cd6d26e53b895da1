use Rattle.std.proofs.Common.{◌≡◌, ℕ, ◌+◌, ◌≤◌, arith}
use Rattle.std.proofs.lemmas.Bool.Decides.{nat_tests}
use Rattle.widths.specs.Width.{width_of}
use Rattle.distances.specs.Marks.{mark_of}
use Rattle.completions.proofs.LeastMarks.{least_start, least_all}
use Rattle.completions.proofs.nearest.nearest.Goals as goal

pub loop-p-init : goal.loop-p-init
loop-p-init g c = λ fresh. least_start _ _ _ fresh.inside

pub returns : goal.returns
returns g c = λ e table fresh.
    let f = g.B.Bank.means.front c.args.bank.now in
    let t = c.args.table.now in
    let n = table.places in
    let none : (p : ℕ) → c.loop-p.p ≤ p → width_of t.widths p ≡ 0 = λ p h. let k = table.widths p in grind (arith, nat_tests) in
    least_all (mark_of c.args.marks.now) f (width_of t.widths) c.loop-p.p c.loop-p.best fresh.inside none (c.loop-p.invariant fresh)

pub returns-2 : goal.returns-2
returns-2 g c = λ e table fresh.
    let f = g.B.Bank.means.front c.args.bank.now in
    let t = c.args.table.now in
    let n = table.places in
    let none : (p : ℕ) → c.loop-p.p + 1 ≤ p → width_of t.widths p ≡ 0 = λ p h. let k = table.widths p in grind (arith, nat_tests) in
    least_all (mark_of c.args.marks.now) f (width_of t.widths) (c.loop-p.p + 1) c.nearest_at-best.result fresh.inside none
    (c.nearest_at-best.ensures fresh (c.loop-p.invariant fresh))
