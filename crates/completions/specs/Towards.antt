-- The links from a pair to one that has a mark, and a code there.
use Rattle.std.specs.Prelude.{◌≡◌, ℕ, ◌+◌, Bool, ◌&&◌, ◌||◌, Some, None, Option, ◌==◌, nat_le, nat_lt}
use Rattle.automata.specs.Language.{Tree}
use Rattle.automata.specs.Places.{Holds}
use Rattle.automata.specs.Links.{Link}
use Rattle.widths.specs.Width.{width_of}
use Rattle.tables.specs.declared.table.Table.{Table}
use Rattle.tables.specs.Masks.{within, next, cross}
use Rattle.tables.specs.Tables.{links_of, low_of}
use Rattle.completions.specs.declared.nearest.Found.{Found}

-- A link leads from (p, i) to a pair at q with the mark m. M is the marks.
abbrev pub leading : Table → (ℕ → ℕ → ℕ) → ℕ → ℕ → ℕ → ℕ → Bool
leading t M p i q m =
    (within (links_of t p q) && M q i == m)
    || (((next (links_of t p q) && nat_lt i (width_of t.widths p)) && M q (i + 1) == m)
    || ((cross (links_of t p q) && nat_le (low_of t p) i) && M q 1 == m))

-- The code is one of a place that a link leads to from the pair, with one less as its distance.
abbrev pub Towards : Tree → (ℕ → ℕ → ℕ) → Found → Option ℕ → Type 0
Towards e M x None = ⊥
Towards e M x (Some c) = (q : ℕ) × (j : ℕ) × Link e x.place x.count q j × (M q j ≡ x.distance) × Holds e 0 q c
