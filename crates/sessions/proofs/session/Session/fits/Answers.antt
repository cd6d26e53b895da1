use Rattle.std.proofs.Common.{refl}
use Rattle.sessions.proofs.Answers.{fits_told}
use Rattle.sessions.proofs.session.Session.fits.Goals as goal

pub returns : goal.returns
returns g c = (
  refl,
  λ text row on. fits_told g.K.Kind g.B.Bank g.met.K.Kind.alphabet g.met.K.Kind.named text row c.args.self.now on
      c.accepts.result (c.accepts.ensures on.ready),
)
