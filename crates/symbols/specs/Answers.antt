-- How a call answers: with a value where its condition holds, else with a refusal.
use Rattle.std.specs.Prelude.{Bool, cond, Ok, Err, Result}
use Rattle.refusals.specs.declared.Refusal.{Refusal}

-- The value x where the test holds, else the refusal e.
abbrev pub answer : {X : Type 0} → Bool → X → Refusal → Result X Refusal
answer test x e = cond test (Ok x) (Err e)
