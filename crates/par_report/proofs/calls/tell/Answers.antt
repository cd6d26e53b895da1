use Rattle.std.proofs.Common.{lit≤, sym, subst}
use Rattle.par_report.specs.Pars.{NeedSaid}
use Rattle.par_report.proofs.Judging.{need_said}
use Rattle.par_report.proofs.calls.tell.Goals as goal

pub returns : goal.returns
returns c = λ text row right.
    let on = right.front_right in (
      (on.plan_of.tree, on.plan_of.accepted),
      on.symbols,
      right.fits_right _ _ c.fits.ensures,
      subst (NeedSaid text row) (sym c.ok.ensures.value) (need_said text row c.need.result (right.need_right _ _ _ _ (lit≤ tt) c.need.ensures)),
    )
