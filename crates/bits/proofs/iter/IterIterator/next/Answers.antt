use Rattle.bits.proofs.Members.{bits_fall}
use Rattle.bits.proofs.iter.IterIterator.next.Goals as goal

pub returns-clause-goes : goal.returns-clause-goes
returns-clause-goes c =
    let falls = bits_fall c.args.self.now.left c.remove-self.result c.in_ok-n.n c.remove-self.ensures c.in_ok-n.ensures.has in
    record { on = λ f. (tt, tt, falls); keeps = tt; rests = λ f. tt }
