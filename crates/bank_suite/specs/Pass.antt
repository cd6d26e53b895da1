-- What a carry and a turn do to a bank.
use Rattle.std.specs.Prelude.{◌≡◌, ℕ, ◌+◌, Result, MatchResult}
use Rattle.refusals.specs.declared.Refusal.{Refusal}
use Rattle.refusals.specs.declared.Refusal.TheVariants.{Full}
use Rattle.banks.specs.Pairs.{none, only, moved, within, ◌∩◌}
use Rattle.banks.specs.Meaning.{Meaning, Keeps, grown}

-- The front becomes the back with the pairs moved from p to q where the bank can hold that; else it stays. The back is empty then.
pub record Passed {B : Type 0} (m : Meaning B) (p q n : ℕ) (b : B) (r : Result (Unit {0}) Refusal) (b' : B) : Type 0 where
  pub keeps : Keeps m b b'
  pub back_is : m.back b' ≡ none
  pub answered : MatchResult r
      (λ _. m.holds b (grown m b (moved (m.front b) p q n)) × (m.front b' ≡ grown m b (moved (m.front b) p q n)))
      (λ e. (e ≡ Full) × (m.holds b (grown m b (moved (m.front b) p q n)) → ⊥) × (m.front b' ≡ m.front b))

-- After a start with widths ws and a pass of (0, 1) to q: the front is (q, 1 + n), if that lies within the widths, or where the bank cannot hold that
-- still (0, 1) alone. The back is empty, and the bank can hold (0, 1) alone.
pub record Begun {B : Type 0} (m : Meaning B) (ws : ℕ → ℕ) (q n : ℕ) (r : Result (Unit {0}) Refusal) (b : B) : Type 0 where
  pub stands : m.standing b
  pub widths_are : m.widths b ≡ ws
  pub back_is : m.back b ≡ none
  pub holds_start : m.holds b (only 0 1)
  pub answered : MatchResult r (λ _. m.front b ≡ (only q (1 + n) ∩ within ws)) (λ e. (e ≡ Full) × (m.front b ≡ only 0 1))
