use Rattle.distances.specs.Marks.{mark_of}
use Rattle.steps.specs.Fronts.{Fresh}
use Rattle.completions.specs.Nearest.{before, LeastMark}
use Rattle.completions.proofs.nearest.nearest.Given as goal

-- The least mark of the pairs at the places below p.
abbrev pub invariant-loop-p : goal.invariant-loop-p
invariant-loop-p g l =
    Fresh g.B.Bank.means l.table l.bank → LeastMark (mark_of l.marks) (before (g.B.Bank.means.front l.bank) l.p 1) l.best
