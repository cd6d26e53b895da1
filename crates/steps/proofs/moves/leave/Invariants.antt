use Rattle.std.proofs.Common.{◌+◌, Ok}
use Rattle.steps.specs.Gathered.{Ready}
use Rattle.steps.proofs.Leaves.{To}
use Rattle.steps.proofs.moves.leave.Given as goal

-- What leaves p for the places that were gone over is in the back.
abbrev pub invariant-loop-before : goal.invariant-loop-before
invariant-loop-before g l =
    Ready g.B.Bank.means l.initial.bank
    → To g.B.Bank.means l.table l.code l.initial.bank l.p (l.before + 1) (Ok tt) l.bank
