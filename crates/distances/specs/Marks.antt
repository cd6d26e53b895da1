-- The marks of an area: where each one stands, and what they are once the distances are measured.
use Rattle.std.specs.Prelude.{◌≡◌, ℕ, ◌+◌, ◌-◌, ◌<◌, ◌≤◌, cond, ◌&&◌, List, nat_le, slice_index}
use Rattle.automata.specs.Language.{Tree, WellFormed}
use Rattle.automata.specs.Distances.{Labelled}
use Rattle.widths.specs.declared.data.Widths.{Widths}
use Rattle.widths.specs.Width.{width_of, widths_of, base_of}
use Rattle.tables.specs.declared.table.Table.{Table}
use Rattle.tables.specs.Tables.{TableOf}
use Rattle.distances.specs.declared.marks.Marks.{Marks}

-- The mark of the pair (p, i): the marks stand place after place, each place's by count from 1. It is 0 where the place p has no count i.
abbrev pub mark_at : Widths → List ℕ → ℕ → ℕ → ℕ
mark_at w area p i = cond (nat_le 1 i && nat_le i (width_of w p)) (slice_index area (base_of w p + (i - 1))) 0

-- The mark of the pair (p, i) in an area, by the widths that it was laid out by.
abbrev pub mark_of : Marks → ℕ → ℕ → ℕ
mark_of m p i = mark_at (widths_of m.layout) m.area.now p i

-- The numbers from 4,096 on are as before.
abbrev pub Beyond : List ℕ → List ℕ → Type 0
Beyond old new = (k : ℕ) → 4096 ≤ k → slice_index new k ≡ slice_index old k

-- The first 4,096 numbers are 0, or all where there are fewer.
pub record Wiped (old new : List ℕ) : Type 0 where
  pub zero : (k : ℕ) → k < 4096 → slice_index new k ≡ 0
  pub beyond : Beyond old new

-- The area holds the distances in the table of a pattern.
pub record Measured (t : Table) (old new : List ℕ) : Type 0 where
  -- the marks meet the local facts of distances, in the pattern's tree
  pub labels : (e : Tree) → WellFormed e → TableOf e t → Labelled e (mark_at t.widths new)
  -- behind the last place's marks there is 0, up to 4,096
  pub spare : (k : ℕ) → base_of t.widths 65 ≤ k → k < 4096 → slice_index new k ≡ 0
  pub beyond : Beyond old new

-- No two areas differ that hold the distances of one pattern and were the same before: every number is told.
abbrev pub MeasuredOnce : Type 0
MeasuredOnce =
    (e : Tree) (t : Table) (old new other : List ℕ) → WellFormed e → TableOf e t → Measured t old new → Measured t old other
    → (k : ℕ) → slice_index new k ≡ slice_index other k
