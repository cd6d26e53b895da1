use Rattle.plans.proofs.read.plan_with.Goals as goal

pub invariant_of-result : goal.invariant_of-result
invariant_of-result g c = record { made = ∣ (c.args.alphabet, c.args.text.now, c.requires) ∣₁ }
