-- The width of a place, what makes widths sound, and where a place's counts begin.
use Rattle.std.specs.Prelude.{◌≡◌, ℕ, ◌<◌, ◌≤◌, List, take, Some, None, sum, Option, slice_index, slice_index_or}
use Rattle.widths.specs.declared.data.Widths.{Widths}
use Rattle.widths.specs.declared.data.Layout.{Layout}

-- the width of place p, and 0 for a number that is no place
abbrev pub width_of : Widths → ℕ → ℕ
width_of w p = slice_index w.widths p

-- the width of place p where there may be no plan: without one no place has a width
abbrev pub width_in : Option Widths → ℕ → ℕ
width_in None = λ p. 0
width_in (Some w) = width_of w

-- a list of 65 widths that a plan may have: the start's is 1, each is at most 1,000, together they are at most 4,096
pub record Sound (ws : List ℕ) : Type 0 where
  pub start : slice_index_or ws 0 0 ≡ 1
  pub each : (p : ℕ) → p < 65 → slice_index ws p ≤ 1000
  pub total : sum ws ≤ 4096

-- the widths that a layout is made for
abbrev pub widths_of : Layout → Widths
widths_of l = l.widths

-- where the counts of place p begin in the row of all counts: after all counts of the places below p
abbrev pub base_of : Widths → ℕ → ℕ
base_of w p = sum (take p w.widths)
