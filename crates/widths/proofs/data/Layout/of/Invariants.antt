use Rattle.std.proofs.Common.{◌≡◌, ℕ, ◌<◌, length, get_or}
use Rattle.widths.specs.Width.{base_of}
use Rattle.widths.proofs.data.Layout.of.Given as goal

-- `next` is the sum of the widths so far, and each base so far is the sum of the widths before it
abbrev pub invariant-loop-p : goal.invariant-loop-p
invariant-loop-p l =
    (l.next ≡ base_of l.widths l.p)
    × (length l.base-items ≡ 65)
    × ((k : ℕ) → k < l.p → get_or l.base-items k 0 ≡ base_of l.widths k)
