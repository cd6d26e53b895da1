use Rattle.std.proofs.Common.{subst}
use Rattle.widths.specs.declared.data.Widths.{Widths}
use Rattle.widths.specs.Width.{width_of}
use Rattle.banks.specs.Meaning.{Started}
use Rattle.sessions.proofs.ends.restart.Goals as goal

pub returns : goal.returns
returns g c = subst (λ (w : Widths). Started g.B.Bank.means (width_of w) c.start.new.self) c.widths.ensures c.start.ensures
