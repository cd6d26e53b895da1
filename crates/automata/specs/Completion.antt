-- Completions of a row: the need, stuck rows, hints, and paths of links.
use Rattle.std.specs.Prelude.{◌≡◌, ℕ, zero, suc, ◌≤◌, List, [], ◌∷◌, ◌++◌, length}
use Rattle.automata.specs.Language.{Tree, In}
use Rattle.automata.specs.Links.{Link}
use Rattle.automata.specs.Step.{Stands, Accepts}

-- n is the least number of which P holds.
abbrev pub Least : (ℕ → Type 0) → ℕ → Type 0
Least P n = P n × ((m : ℕ) → P m → n ≤ m)

-- Some row of n symbols completes w: joined to its end it gives a row of the language.
abbrev pub Completed : Tree → List ℕ → ℕ → Type 0
Completed e w n = (v : List ℕ) × (length v ≡ n) × In e (w ++ v)

-- The need of w is n: the fewest symbols that complete it.
abbrev pub Need : Tree → List ℕ → ℕ → Type 0
Need e w n = Least (Completed e w) n

-- No row completes w.
abbrev pub Stuck : Tree → List ℕ → Type 0
Stuck e w = (v : List ℕ) → In e (w ++ v) → ⊥

-- s is a hint after w: need is smaller by one once s is put at the end.
abbrev pub Hint : Tree → List ℕ → ℕ → Type 0
Hint e w s = (n : ℕ) × Need e w (suc n) × Need e (w ++ (s ∷ [])) n

-- Each symbol of v is a hint where it is put, one after another at the end of w.
abbrev pub Hinted : Tree → List ℕ → List ℕ → Type 0
Hinted e w [] = Unit {0}
Hinted e w (s ∷ v) = Hint e w s × Hinted e (w ++ (s ∷ [])) v

-- A path of n links leads from (p, i) to a pair that accepts.
abbrev pub Reach : Tree → ℕ → ℕ → ℕ → Type 0
Reach e zero p i = Accepts e p i
Reach e (suc n) p i = (q : ℕ) × (j : ℕ) × Link e p i q j × Reach e n q j

-- A path of n links leads from the front of w to a pair that accepts.
abbrev pub Near : Tree → List ℕ → ℕ → Type 0
Near e w n = (p : ℕ) × (i : ℕ) × Stands e w p i × Reach e n p i
