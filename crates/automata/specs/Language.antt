-- Patterns as trees, the rows of symbols that belong to each, and which trees are patterns that can be accepted.
use Rattle.std.specs.Prelude.{◌≡◌, ℕ, zero, suc, ◌≤◌, Bool, T, ◌⊎◌, List, [], ◌∷◌, ◌++◌}

-- A pattern. A symbol stands by its code, and a set of codes by its test.
pub data Tree : Type 0 where
  -- the empty branch
  empty : Tree
  -- a unit or a class: one symbol of the set
  unit : (ℕ → Bool) → Tree
  -- the first, then the second
  cat : Tree → Tree → Tree
  -- the first or the second
  alt : Tree → Tree → Tree
  -- a body under `*`, `+` and `?`
  star : Tree → Tree
  plus : Tree → Tree
  opt : Tree → Tree
  -- a body under `{low,high}`
  rep : ℕ → ℕ → Tree → Tree

-- The language L joined with itself n times: n rows of L, one after another.
abbrev pub Power : (List ℕ → Type 0) → ℕ → List ℕ → Type 0
Power L zero w = w ≡ []
Power L (suc n) w = (u : List ℕ) × (v : List ℕ) × (w ≡ u ++ v) × L u × Power L n v

-- The row w belongs to the language of the pattern.
-- The empty branch means the empty row, and a set the rows of one symbol from it.
-- A sequence means a row of the first joined with a row of the second, and alternatives the rows of either.
-- The rest mean their body's language joined with itself n times: `*` for every n, `+` for every n from 1,
-- `?` for n = 0 and n = 1, and a counted repeat for every n from its low to its high.
abbrev pub In : Tree → List ℕ → Type 0
In empty w = w ≡ []
In (unit S) w = (c : ℕ) × T (S c) × (w ≡ c ∷ [])
In (cat a b) w = (u : List ℕ) × (v : List ℕ) × (w ≡ u ++ v) × In a u × In b v
In (alt a b) w = In a w ⊎ In b w
In (star a) w = (n : ℕ) × Power (In a) n w
In (plus a) w = (n : ℕ) × (1 ≤ n) × Power (In a) n w
In (opt a) w = (n : ℕ) × (n ≤ 1) × Power (In a) n w
In (rep lo hi a) w = (n : ℕ) × (lo ≤ n) × (n ≤ hi) × Power (In a) n w

-- There is no counted repeat in the pattern.
abbrev pub Flat : Tree → Type 0
Flat empty = Unit {0}
Flat (unit S) = Unit {0}
Flat (cat a b) = Flat a × Flat b
Flat (alt a b) = Flat a × Flat b
Flat (star a) = Flat a
Flat (plus a) = Flat a
Flat (opt a) = Flat a
Flat (rep lo hi a) = ⊥

-- In every counted repeat the low does not exceed the high, the high is at least 1, and the body has no counted repeat.
abbrev pub WellFormed : Tree → Type 0
WellFormed empty = Unit {0}
WellFormed (unit S) = Unit {0}
WellFormed (cat a b) = WellFormed a × WellFormed b
WellFormed (alt a b) = WellFormed a × WellFormed b
WellFormed (star a) = WellFormed a
WellFormed (plus a) = WellFormed a
WellFormed (opt a) = WellFormed a
WellFormed (rep lo hi a) = (lo ≤ hi) × (1 ≤ hi) × Flat a

-- Every set of the pattern holds some code.
abbrev pub NoEmptySet : Tree → Type 0
NoEmptySet empty = Unit {0}
NoEmptySet (unit S) = (c : ℕ) × T (S c)
NoEmptySet (cat a b) = NoEmptySet a × NoEmptySet b
NoEmptySet (alt a b) = NoEmptySet a × NoEmptySet b
NoEmptySet (star a) = NoEmptySet a
NoEmptySet (plus a) = NoEmptySet a
NoEmptySet (opt a) = NoEmptySet a
NoEmptySet (rep lo hi a) = NoEmptySet a
