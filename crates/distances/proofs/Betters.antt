-- The better of several marks, where there is none to choose.
use Rattle.std.proofs.Common.{ℕ, refl, inl, arith}
use Rattle.distances.specs.Search.{Better}

-- nothing to choose from
pub better_none : (M : ℕ → ℕ → ℕ) (S : ℕ → ℕ → Type 0) (r : ℕ) → ((q j : ℕ) → S q j → ⊥) → Better M S r r
better_none M S r never = record {
  small = λ h. h;
  keeps = λ h. (h, omega arith);
  from = inl refl;
  near = λ q j s a b. absurd (never q j s);
}
