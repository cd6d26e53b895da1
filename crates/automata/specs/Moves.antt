-- The step told by what a bank can do: carry the counts of a place to another, look for a count, add a pair.
use Rattle.std.specs.Prelude.{◌≡◌, ℕ, ◌+◌, ◌≤◌, ◌⊎◌}
use Rattle.automata.specs.Language.{Tree}
use Rattle.automata.specs.Places.{First, low, width}
use Rattle.automata.specs.Links.{Within, Next, Cross}

-- Carry from p to q puts j there: j is a count of F at p, raised by k, from 1 to the width of q. What is outside is left out.
abbrev pub Carried : Tree → (ℕ → ℕ → Type 0) → ℕ → ℕ → ℕ → ℕ → Type 0
Carried e F p q k j = (i : ℕ) × F p i × (j ≡ i + k) × (1 ≤ j) × (j ≤ width e 0 q)

-- Look at p says yes: F has a count at p from its low to its width.
abbrev pub Seen : Tree → (ℕ → ℕ → Type 0) → ℕ → Type 0
Seen e F p = (i : ℕ) × F p i × (low e 0 p ≤ i) × (i ≤ width e 0 p)

-- The start is a place like the others here, with a cross link to every first.
abbrev pub Crosses : Tree → ℕ → ℕ → Type 0
Crosses e p q = Cross e 0 p q ⊎ ((p ≡ 0) × First e 0 q)

-- The moves from p to q give (q, j): a within link carries the counts as they are, a next link raised by one,
-- and a cross link adds (q, 1) where a look at p says yes.
abbrev pub Moved : Tree → (ℕ → ℕ → Type 0) → ℕ → ℕ → ℕ → Type 0
Moved e F p q j =
    (Within e 0 p q × Carried e F p q 0 j) ⊎ ((Next e 0 p q × Carried e F p q 1 j) ⊎ (Crosses e p q × Seen e F p × (j ≡ 1)))
