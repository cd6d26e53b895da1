use Rattle.std.proofs.Common.{refl}
use Rattle.sessions.proofs.Standing.{stands_started}
use Rattle.sessions.proofs.Runs.{every_run}
use Rattle.sessions.proofs.ends.session_on.Goals as goal

pub returns : goal.returns
returns g c = record {
  same = refl;
  started = c.requires;
  right = λ text plan. every_run g.K.Kind g.B.Bank text _ (stands_started g.K.Kind g.B.Bank text _ plan c.requires);
}
