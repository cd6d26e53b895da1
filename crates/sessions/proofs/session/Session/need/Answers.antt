use Rattle.std.proofs.Common.{refl}
use Rattle.sessions.proofs.Answers.{need_told}
use Rattle.sessions.proofs.session.Session.need.Goals as goal

pub returns : goal.returns
returns g c = record {
  stays = refl;
  area = c.need_of.ensures.area;
  short = c.need_of.ensures.short;
  full = λ full text row on.
      need_told g.K.Kind g.B.Bank g.met.K.Kind.alphabet g.met.K.Kind.named text row c.args.self.now on
      c.need_of.result (c.need_of.ensures.answer full on.ready);
}
