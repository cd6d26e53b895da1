use Rattle.widths.specs.Width.{width_of}
use Rattle.banks.specs.Raises.{raise_by}
use Rattle.bank_suite.proofs.Passes.{begun}
use Rattle.bank_suite.proofs.start_and_pass.Goals as goal

pub returns : goal.returns
returns g c =
    begun g.B.Bank.means (width_of c.args.plan.now) c.args.q (raise_by c.args.raise) c.start.new.self c.start.ensures
    c.pass.result c.pass.new.bank (c.pass.ensures c.start.ensures.stands)
