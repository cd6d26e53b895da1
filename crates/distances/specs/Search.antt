-- What the search keeps true of the marks while it lowers them.
use Rattle.std.specs.Prelude.{◌≡◌, ℕ, ◌+◌, ◌<◌, ◌≤◌, Bool, true, false, cond, ◌⊎◌, List, [], ◌∷◌, ◌==◌, length, slice_index}
use Rattle.widths.specs.Width.{widths_of, base_of}
use Rattle.distances.specs.declared.graph.Graph.{Graph}
use Rattle.distances.specs.Graphs.{Pair, Leads, accepting, mark_in}

-- t is r, or one more than the mark of a pair of S; and it is no worse than r or what a pair of S allows. M is the marks, and 0 is worst.
pub record Better (M : ℕ → ℕ → ℕ) (S : ℕ → ℕ → Type 0) (r t : ℕ) : Type 0 where
  pub small : r ≤ 4097 → t ≤ 4097
  pub keeps : 1 ≤ r → (1 ≤ t) × (t ≤ r)
  pub from : (t ≡ r) ⊎ ((q : ℕ) × (j : ℕ) × S q j × (1 ≤ M q j) × (t ≡ M q j + 1))
  pub near : (q j : ℕ) → S q j → 1 ≤ M q j → M q j < 4097 → (1 ≤ t) × (t ≤ M q j + 1)

-- Every mark has a ground: a pair with 1 accepts, and one with more has a link to a smaller mark that is not 0. D is the pairs, L the links.
pub record Grounded (D : ℕ → ℕ → Type 0) (L : ℕ → ℕ → ℕ → ℕ → Type 0) (A : ℕ → ℕ → Bool) (M : ℕ → ℕ → ℕ) : Type 0 where
  pub small : (p i : ℕ) → D p i → M p i ≤ 4097
  pub one : (p i : ℕ) → D p i → M p i ≡ 1 → A p i ≡ true
  pub more : (p i : ℕ) → D p i → 2 ≤ M p i → (q : ℕ) × (j : ℕ) × L p i q j × (1 ≤ M q j) × (M q j < M p i)

abbrev pub Ground : Graph → List ℕ → Type 0
Ground g area = Grounded (Pair g) (Leads g) (accepting g) (mark_in g area)

-- Nothing lowers the mark of (p, i): it has 1 where it accepts, and no link leads to a mark that allows less.
pub record Still (L : ℕ → ℕ → ℕ → ℕ → Type 0) (A : ℕ → ℕ → Bool) (M : ℕ → ℕ → ℕ) (p i : ℕ) : Type 0 where
  pub accepts : A p i ≡ true → M p i ≡ 1
  pub linked : (q j : ℕ) → L p i q j → 1 ≤ M q j → M q j < 4097 → (1 ≤ M p i) × (M p i ≤ M q j + 1)

abbrev pub Settled : Graph → List ℕ → ℕ → ℕ → Type 0
Settled g area p i = Still (Leads g) (accepting g) (mark_in g area) p i

-- What is left to gain: no mark costs more than any mark.
abbrev pub cost : ℕ → ℕ
cost v = cond (v == 0) 4098 v

abbrev pub rest : List ℕ → ℕ
rest [] = 0
rest (x ∷ xs) = cost x + rest xs

-- The numbers behind the last place's marks are as before.
abbrev pub Behind : Graph → List ℕ → List ℕ → Type 0
Behind g old new = (k : ℕ) → base_of (widths_of g.layout) 65 ≤ k → slice_index new k ≡ slice_index old k

-- The area old became new, and its marks are still grounded. Where one moved, less is left to gain; else the pairs of V are settled.
pub record Swept (g : Graph) (old new : List ℕ) (V : ℕ → ℕ → Type 0) (moved : Bool) : Type 0 where
  pub ground : Ground g new
  pub behind : Behind g old new
  pub falls : moved ≡ true → rest new < rest old
  pub still : moved ≡ false → (new ≡ old) × ((p i : ℕ) → V p i → Pair g p i → Settled g new p i)

-- A sweep of grounded marks: what the area old became.
abbrev pub Sweeps : Graph → List ℕ → List ℕ → (ℕ → ℕ → Type 0) → Bool → Type 0
Sweeps g old new V moved = Ground g old → Swept g old new V moved

-- The 4,096 numbers old became new: the marks are grounded, and nothing lowers one.
pub record AllSettled (g : Graph) (old new : List ℕ) : Type 0 where
  pub long : length new ≡ 4096
  pub ground : Ground g new
  pub behind : Behind g old new
  pub settled : (p i : ℕ) → Pair g p i → Settled g new p i
