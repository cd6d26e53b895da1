use Rattle.std.proofs.Common.{ℕ, ap, ◌∙◌}
use Rattle.std.proofs.lemmas.Bool.{eqb-true, eq-eqb}
use Rattle.bits.specs.Bit.{bit}
use Rattle.bits.specs.Members.{member}
use Rattle.bits.proofs.Members.{same_members}
use Rattle.bits.proofs.set.Set64.equals.Goals as goal

pub returns : goal.returns
unfolding member
returns c =
    let a = c.args.self in
    let b = c.args.other in
    ((λ t k. ap (λ (x : ℕ). bit x k) (eqb-true a.bits b.bits (rw c.eq.ensures at t))), (λ h. c.eq.ensures ∙ eq-eqb a.bits b.bits (ap (λ s. s.bits) (same_members a b h))))
