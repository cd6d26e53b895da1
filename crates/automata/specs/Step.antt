-- The step, the front after a row, and when a front fits. A set of pairs (place, count) stands by what it says of each pair.
use Rattle.std.specs.Prelude.{◌≡◌, ℕ, ◌≤◌, T, ◌⊎◌, List, [], ◌∷◌}
use Rattle.automata.specs.Language.{Tree}
use Rattle.automata.specs.Places.{nullable, Last, Holds, low}
use Rattle.automata.specs.Links.{Link}

-- The step of the set F by the symbol s: (q, j) is in it when the set at q holds s and some link takes a pair of F to (q, j).
abbrev pub Step : Tree → ℕ → (ℕ → ℕ → Type 0) → ℕ → ℕ → Type 0
Step e s F q j = Holds e 0 q s × ((p : ℕ) × (i : ℕ) × F p i × Link e p i q j)

-- The front at first: (0, 1) alone.
abbrev pub Start : ℕ → ℕ → Type 0
Start p i = (p ≡ 0) × (i ≡ 1)

-- The set F after the symbols of a row, one step for each.
abbrev pub After : Tree → (ℕ → ℕ → Type 0) → List ℕ → ℕ → ℕ → Type 0
After e F [] = F
After e F (s ∷ w) = After e (Step e s F) w

-- The pair stands after the row: it is in the row's front.
abbrev pub Stands : Tree → List ℕ → ℕ → ℕ → Type 0
Stands e w = After e Start w

-- The pair accepts: it is (0, 1) and the pattern is nullable, or its place is a last of the pattern and its count at least the place's low.
abbrev pub Accepts : Tree → ℕ → ℕ → Type 0
Accepts e p i = ((p ≡ 0) × (i ≡ 1) × T (nullable e)) ⊎ (Last e 0 p × (low e 0 p ≤ i))

-- The front of the row fits: a pair that accepts stands.
abbrev pub Fits : Tree → List ℕ → Type 0
Fits e w = (p : ℕ) × (i : ℕ) × Stands e w p i × Accepts e p i
