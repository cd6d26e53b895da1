use Rattle.std.proofs.Common.{◌≡◌, ℕ, ◌+◌, ◌*◌, ◌<◌, ◌≤◌, length}
use Rattle.widths.specs.Width.{width_of, base_of}
use Rattle.bit_bank.specs.Row.{row_of}
use Rattle.bit_bank.proofs.rows.Rows.of.Given as goal

-- the rows below p lie one after another, below the words in use
abbrev pub invariant-loop-p : goal.invariant-loop-p
invariant-loop-p l =
    (length l.row-items ≡ 65)
    × (64 * l.used ≤ base_of l.plan l.p + 63 * l.p)
    × ((a : ℕ) → a < l.p → (row_of l.row-items a).width ≡ width_of l.plan a)
    × ((a : ℕ) → a < l.p → 64 * (row_of l.row-items a).base + (row_of l.row-items a).width ≤ 64 * l.used)
    × ((a b : ℕ) → a < b → b < l.p → 64 * (row_of l.row-items a).base + (row_of l.row-items a).width ≤ 64 * (row_of l.row-items b).base)
