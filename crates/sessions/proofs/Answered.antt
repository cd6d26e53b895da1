-- What an answer with a value tells.
use Rattle.std.proofs.Common.{◌≡◌, ℕ, Bool, true, false, Ok, refl, arith}
use Rattle.refusals.specs.declared.Refusal.{Refusal}
use Rattle.symbols.specs.Answers.{answer}

pub answered : {X : Type 0} (test : Bool) (x y : X) (e : Refusal) → Ok x ≡ answer test y e → (test ≡ true) × (x ≡ y)
answered true x y e h = (refl, cc)
answered false x y e h = absurd (let z : ◌≡◌ {A = ℕ} 0 1 = cc in omega arith)
