use Rattle.std.proofs.Common.{◌≡◌, ℕ, List, ◌++◌}
use Rattle.std.specs.Slice.Iter.{chunks_rest, chunks_size}
use Rattle.symbol_rows.specs.Rows.{Spells}
use Rattle.symbol_rows.proofs.row.read_row.Given as goal

-- The symbols so far are spelled by the bytes passed.
abbrev pub invariant-loop-unit : goal.invariant-loop-unit
invariant-loop-unit g l =
    (goal.iterator-loop-unit g).can_next l.unit-iterator
    × (goal.iterator-loop-unit g).is_finite l.unit-iterator
    × (chunks_size l.unit-iterator ≡ g.K.Kind.unit_length)
    × ((passed : List ℕ) × Spells g.K.Kind passed l.row.items × (passed ++ chunks_rest l.unit-iterator ≡ l.fn.text))
