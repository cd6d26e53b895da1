use Rattle.std.proofs.Common.{◌≡◌, take}
use Rattle.symbol_rows.specs.Rows.{AllSymbols, codes_of}
use Rattle.symbol_rows.proofs.row.row_codes.Given as goal

-- The symbols passed have the codes so far.
abbrev pub invariant-loop-before : goal.invariant-loop-before
invariant-loop-before g l =
    AllSymbols g.K.Kind (take l.before-counter l.row) × (l.codes.items ≡ codes_of g.K.Kind (take l.before-counter l.row))
