use Rattle.sessions.proofs.Answered.{answered}
use Rattle.sessions.proofs.Laying.{lay_did}
use Rattle.sessions.proofs.session.Session.lay.Goals as goal

pub returns : goal.returns
returns g c =
    let k = g.K.Kind in
    let (valid, is) = answered (k.valid c.args.symbol) c.in_ok-code.code (k.code c.args.symbol) _ c.in_ok-code.ensures in
    lay_did k g.B.Bank c.args.self.now c.step.new.bank c.args.symbol c.step.result c.in_ok-code.code valid is
    c.step.ensures.answer c.step.ensures.relation
