-- The lines that are left get fewer.
use Rattle.std.proofs.Common.{length}
use Rattle.examples.proofs.main.Given as goal

abbrev pub decreases-loop-rest : goal.decreases-loop-rest
decreases-loop-rest l = length l.rest
