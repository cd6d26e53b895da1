use Rattle.std.proofs.Common.{◌≡◌, ℕ, ◌+◌, subst, arith}
use Rattle.std.proofs.lemmas.Bool.Decides.{not_from_Decides}
use Rattle.widths.specs.Width.{width_of}
use Rattle.distances.specs.Marks.{mark_of}
use Rattle.completions.specs.Nearest.{before, LeastMark}
use Rattle.completions.proofs.LeastMarks.{least_place, least_skip}
use Rattle.completions.proofs.nearest.nearest_at.Goals as goal

pub returns-else-look : goal.returns-else-look
returns-else-look g c = λ fresh h.
    let f = g.B.Bank.means.front c.args.bank.now in
    let ws = width_of c.args.table.now.widths in
    least_skip (mark_of c.args.marks.now) f ws c.args.p c.args.old fresh.inside
    (λ x. let (i, a, b, y) = x in
    let w = c.width_at-width.ensures in
    not_from_Decides c.look.result (c.look.ensures fresh.stands) c.if-look.false (i, a, omega arith, y))
    h

pub returns-then-look-2 : goal.returns-then-look-2
returns-then-look-2 g c = λ fresh h.
    let f = g.B.Bank.means.front c.args.bank.now in
    let M = mark_of c.args.marks.now in
    let ws = width_of c.args.table.now.widths in
    let end : c.loop-i.i ≡ ws c.args.p = omega (arith, c.width_at-width.ensures) in
    least_place M f ws c.args.p c.nearer-best.result fresh.inside
    (subst (λ (n : ℕ). LeastMark M (before f c.args.p (n + 1)) c.nearer-best.result) end (c.nearer-best.ensures fresh.stands (c.loop-i.invariant fresh.stands h)))
