-- A table of distances to the pairs that accept, told by facts that each speak of one pair or one link.
use Rattle.std.specs.Prelude.{◌≡◌, ℕ, suc, ◌≤◌}
use Rattle.automata.specs.Language.{Tree}
use Rattle.automata.specs.Places.{size, width}
use Rattle.automata.specs.Links.{Link}
use Rattle.automata.specs.Step.{Accepts}

-- The pair is one of the pattern's: its place is at most the last place, its count from 1 to the place's width.
abbrev pub Inside : Tree → ℕ → ℕ → Type 0
Inside e p i = (p ≤ size e) × (1 ≤ i) × (i ≤ width e 0 p)

-- The local facts of a table that is to hold 0 where no path leads to a pair that accepts, and one more than the distance elsewhere.
pub record Labelled (e : Tree) (label : ℕ → ℕ → ℕ) : Type 0 where
  -- a pair with 1 accepts
  pub accepts : (p i : ℕ) → Inside e p i → label p i ≡ 1 → Accepts e p i
  -- a pair with k + 2 has a link to one with k + 1
  pub leads : (p i k : ℕ) → Inside e p i → label p i ≡ suc (suc k) → (q : ℕ) × (j : ℕ) × Link e p i q j × (label q j ≡ suc k)
  -- a pair that accepts has 1
  pub accepting : (p i : ℕ) → Inside e p i → Accepts e p i → label p i ≡ 1
  -- a pair with a link to one with k + 1 has at most k + 2, and not 0
  pub linked : (p i q j k : ℕ) → Inside e p i → Link e p i q j → label q j ≡ suc k → (1 ≤ label p i) × (label p i ≤ suc (suc k))
