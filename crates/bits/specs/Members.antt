-- What a set of numbers below 64 means.
use Rattle.std.specs.Prelude.{◌≡◌, ℕ, ◌<◌, Bool, true, false}
use Rattle.bits.specs.declared.set.Set64.{Set64}
use Rattle.bits.specs.Bit.{bit}

-- k is in the set; no number from 64 on is, since the word is below 2 ^ 64
unfoldable pub member : Set64 → ℕ → Bool
member s k = bit s.bits k

-- n is the least member of the set
pub record Least (s : Set64) (n : ℕ) : Type 0 where
  pub within : n < 64
  pub has : member s n ≡ true
  pub first : (k : ℕ) → k < n → member s k ≡ false
