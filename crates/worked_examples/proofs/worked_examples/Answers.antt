-- The table has twenty-two examples, and each holds.
use Rattle.worked_examples.proofs.worked_examples.Goals as goal
use Rattle.std.proofs.Common.{refl}
use Rattle.worked_examples.proofs.Examples.{examples_hold}

pub returns : goal.returns
returns c = record { count = refl; hold = examples_hold }
