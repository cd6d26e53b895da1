-- The pairs of a graph, the links between them, which of them accept, and where their marks stand.
use Rattle.std.specs.Prelude.{◌≡◌, ℕ, ◌+◌, ◌-◌, ◌<◌, ◌≤◌, Bool, true, ◌&&◌, ◌||◌, ◌⊎◌, List, ◌==◌, nat_le, slice_index}
use Rattle.widths.specs.Width.{width_of, widths_of, base_of}
use Rattle.tables.specs.Masks.{within, next, cross, has_place}
use Rattle.tables.specs.Tables.{links_of, low_of}
use Rattle.distances.specs.declared.graph.Graph.{Graph}

-- The width of the place p.
abbrev pub width_in : Graph → ℕ → ℕ
width_in g p = width_of (widths_of g.layout) p

-- Where the mark of the pair (p, i) stands, and the mark that an area has there.
abbrev pub number_in : Graph → ℕ → ℕ → ℕ
number_in g p i = base_of (widths_of g.layout) p + (i - 1)

abbrev pub mark_in : Graph → List ℕ → ℕ → ℕ → ℕ
mark_in g area p i = slice_index area (number_in g p i)

-- (p, i) is a pair: a place, with a count from 1 to its width.
abbrev pub Pair : Graph → ℕ → ℕ → Type 0
Pair g p i = (p ≤ g.table.now.places) × (1 ≤ i) × (i ≤ width_in g p)

-- The links from the place p to the place q take the count i to j. Within: i goes to i. Next: i, below the width, goes to i + 1.
-- Cross: i, from the low on, goes to 1.
abbrev pub Goes : Graph → ℕ → ℕ → ℕ → ℕ → Type 0
Goes g p i q j =
    ((within (links_of g.table.now p q) ≡ true) × (j ≡ i)) ⊎
    (((next (links_of g.table.now p q) ≡ true) × (i < width_in g p) × (j ≡ i + 1)) ⊎
    ((cross (links_of g.table.now p q) ≡ true) × (low_of g.table.now p ≤ i) × (j ≡ 1)))

-- A link leads from (p, i) to the pair (q, j), which is not at the start.
abbrev pub Leads : Graph → ℕ → ℕ → ℕ → ℕ → Type 0
Leads g p i q j = Pair g q j × (1 ≤ q) × Goes g p i q j

-- (p, i) accepts: the start does where the pattern is nullable, and a last does from its low on.
abbrev pub accepting : Graph → ℕ → ℕ → Bool
accepting g p i = (p == 0 && g.table.now.nullable) || (has_place g.table.now.lasts p && nat_le (low_of g.table.now p) i)
