use Rattle.std.proofs.Common.{ap, ◌∙◌}
use Rattle.mask_layer.specs.Places.{placed}
use Rattle.mask_layer.proofs.Layers.{turned}
use Rattle.mask_layer.proofs.calls.MaskLayerBank.turn.Goals as goal

pub returns : goal.returns
returns g c = λ s.
    turned g.B.Bank.means g.met.B.Bank.facts c.args.self.now s c.turn.new.self c.replace-self.result c.replace-self.new.dest
    (c.turn.ensures s.below) c.replace-self.ensures.value (λ p. ap (λ o. placed o p) c.replace-self.ensures.after ∙ c.empty.ensures p)
