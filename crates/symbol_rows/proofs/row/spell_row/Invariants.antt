use Rattle.std.proofs.Common.{take}
use Rattle.symbol_rows.specs.Rows.{Spells}
use Rattle.symbol_rows.proofs.row.spell_row.Given as goal

-- The bytes so far spell the symbols passed.
abbrev pub invariant-loop-before : goal.invariant-loop-before
invariant-loop-before g l = Spells g.K.Kind l.bytes.items (take l.before-counter l.row)
