use Rattle.std.proofs.Common.{ℕ, ap, ◌∙◌}
use Rattle.std.proofs.lemmas.Bool.{eqb-true, eq-eqb}
use Rattle.bits.specs.Bit.{bit}
use Rattle.bits.specs.Members.{member}
use Rattle.bits.proofs.Laws.{bit_zero, no_bit}
use Rattle.bits.proofs.set.Set64.is_empty.Goals as goal

pub returns : goal.returns
unfolding member
returns c =
    ((λ t k. ap (λ (x : ℕ). bit x k) (eqb-true c.args.self.bits 0 t) ∙ bit_zero k), (λ h. eq-eqb c.args.self.bits 0 (no_bit c.args.self.bits h)))
