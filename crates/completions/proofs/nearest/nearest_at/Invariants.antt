use Rattle.distances.specs.Marks.{mark_of}
use Rattle.completions.specs.Nearest.{before, LeastMark}
use Rattle.completions.proofs.nearest.nearest_at.Given as goal

-- The least mark of the pairs before the count that is next.
abbrev pub invariant-loop-i : goal.invariant-loop-i
invariant-loop-i g l =
    g.B.Bank.means.standing l.bank
    → LeastMark (mark_of l.marks) (before (g.B.Bank.means.front l.bank) l.p 1) l.initial.best
    → LeastMark (mark_of l.marks) (before (g.B.Bank.means.front l.bank) l.p l.i) l.best
