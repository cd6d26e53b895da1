use Rattle.std.proofs.Common.{sym, ◌∙◌, arith}
use Rattle.std.proofs.lemmas.Bool.Decides.{nat_tests}
use Rattle.mask_layer.proofs.Layers.{looked_own}
use Rattle.mask_layer.proofs.calls.MaskLayerBank.look.Goals as goal

pub returns-then-has : goal.returns-then-has
returns-then-has g c = λ s.
    let t = c.if-has.true in
    let h = c.has.ensures in
    looked_own g.B.Bank.means g.met.B.Bank.facts c.args.self.now s c.args.p c.args.low c.args.high _
    (sym c.is_narrow.ensures ∙ c.if-is_narrow.true) (grind (arith, nat_tests))
