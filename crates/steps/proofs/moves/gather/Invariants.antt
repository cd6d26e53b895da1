use Rattle.std.proofs.Common.{Ok}
use Rattle.steps.specs.Fronts.{Fresh}
use Rattle.steps.proofs.Leaves.{Below}
use Rattle.steps.proofs.moves.gather.Given as goal

-- What leaves the places below p is in the back.
abbrev pub invariant-loop-p : goal.invariant-loop-p
invariant-loop-p g l =
    Fresh g.B.Bank.means l.table l.initial.bank
    → Below g.B.Bank.means l.table l.code l.initial.bank l.p (Ok tt) l.bank
