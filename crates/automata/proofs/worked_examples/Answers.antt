-- The table has sixteen examples, and each holds.
use Rattle.automata.proofs.worked_examples.Goals as goal
use Rattle.std.proofs.Common.{refl}
use Rattle.automata.proofs.Examples.{examples_hold}

pub returns : goal.returns
returns c = record { count = refl; hold = examples_hold }
