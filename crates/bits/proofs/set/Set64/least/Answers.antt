use Rattle.std.proofs.lemmas.Bool.{both_ways}
use Rattle.bits.proofs.Members.{least_member}
use Rattle.bits.proofs.set.Set64.least.Goals as goal

pub returns : goal.returns
returns c = least_member c.args.self (λ none. both_ways _ c.if-is_empty.false (c.is_empty.ensures.1 none))
