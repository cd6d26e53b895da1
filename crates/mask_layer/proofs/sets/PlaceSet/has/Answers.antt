use Rattle.std.proofs.Common.{◌-◌, arith}
use Rattle.std.proofs.lemmas.Bool.Decides.{nat_tests}
use Rattle.bits.proofs.Members.{member_past}
use Rattle.mask_layer.proofs.sets.PlaceSet.has.Goals as goal

pub returns-in_default : goal.returns-in_default
returns-in_default c = let past = member_past c.args.self.rest (c.args.p - 1) (omega arith) in grind (arith, nat_tests)
