use Rattle.std.proofs.Common.{◌≡◌, ℕ, replicate, ap, refl, ⊎_elim, arith}
use Rattle.std.proofs.lemmas.Bool.{cases_lt}
use Rattle.std.proofs.lemmas.List.{get_or-replicate, get_or_past}
use Rattle.bit_bank.specs.declared.rows.Row.{Row}
use Rattle.bit_bank.specs.Row.{row_of}
use Rattle.bit_bank.proofs.rows.Rows.none.Goals as goal

-- each of the rows is the empty one at word 0
empty : (p : ℕ) → row_of (replicate 65 record { base = 0; width = 0 }) p ≡ record { base = 0; width = 0 }
empty p = ⊎_elim
    (λ h. get_or-replicate 65 p record { base = 0; width = 0 } record { base = 0; width = 0 } h)
    (λ h. get_or_past (replicate 65 record { base = 0; width = 0 }) p record { base = 0; width = 0 } h)
    (cases_lt p 65)

pub invariant_of-result : goal.invariant_of-result
invariant_of-result c = record {
  long = refl;
  room = λ p h. let b = ap (λ (r : Row). r.base) (empty p) in let w = ap (λ (r : Row). r.width) (empty p) in omega arith;
  apart = λ p q h l. let b = ap (λ (r : Row). r.base) (empty p) in let w = ap (λ (r : Row). r.width) (empty p) in omega arith;
  few = omega arith;
}

pub returns : goal.returns
returns c = λ p. ap (λ (r : Row). r.width) (empty p)
