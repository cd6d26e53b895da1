use Rattle.std.proofs.Common.{Decides, rules}
use Rattle.widths.specs.Width.{width_of}
use Rattle.tables.specs.Tables.{low_of}
use Rattle.steps.proofs.Any.{Seen, look_is_seen}
use Rattle.steps.proofs.moves.can_leave.Goals as goal

pub returns : goal.returns
returns g c = λ stands.
    let f = g.B.Bank.means.front c.args.bank.now in
    let t = c.args.table.now in
    let p = c.args.p in
    let told = c.look.ensures stands in
    let h : Decides c.look.result (Seen f p (low_of t p) (width_of t.widths p)) = search rules in
    look_is_seen f p (low_of t p) (width_of t.widths p) c.look.result h
