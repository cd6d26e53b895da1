-- The row of a place.
use Rattle.std.specs.Prelude.{ℕ, List, slice_index_or}
use Rattle.bit_bank.specs.declared.rows.Row.{Row}

-- the row of place p in a list of rows; a number that is no place has a row of width 0
abbrev pub row_of : List Row → ℕ → Row
row_of rows p = slice_index_or rows p record { base = 0; width = 0 }
