use Rattle.std.proofs.Common.{◌≡◌, ℕ, ◌+◌, ◌*◌}
use Rattle.bits.specs.Bit.{bit_at}
use Rattle.bit_bank.specs.Join.{joined}
use Rattle.bit_bank.proofs.Join.{Carried}
use Rattle.bit_bank.proofs.words.join.Given as goal

-- the row is joined up to the word to + k, and `over` is what goes on into it
abbrev pub invariant-loop-k : goal.invariant-loop-k
invariant-loop-k g l =
    ((a : ℕ) → bit_at l.dst a ≡ joined l.initial.dst l.src (64 * l.to + g.row.UP) (64 * l.from) (64 * (l.to + l.k)) a)
    × Carried l.src l.from g.row.UP l.k l.over
