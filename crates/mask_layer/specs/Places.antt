-- Sets of places, and the places of width 1.
use Rattle.std.specs.Prelude.{ℕ, ◌-◌, Bool, cond, Option, ◌==◌}
use Rattle.bits.specs.Members.{member}
use Rattle.widths.specs.declared.data.Widths.{Widths}
use Rattle.widths.specs.Width.{width_in}
use Rattle.mask_layer.specs.declared.sets.PlaceSet.{PlaceSet}

-- place p is in the set
abbrev pub placed : PlaceSet → ℕ → Bool
placed s p = cond (p == 0) s.start (member s.rest (p - 1))

-- place p has width 1
abbrev pub narrow : Option Widths → ℕ → Bool
narrow plan p = width_in plan p == 1
