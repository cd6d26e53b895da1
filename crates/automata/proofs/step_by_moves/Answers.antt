-- The step, the widths and the moves.
use Rattle.automata.proofs.step_by_moves.Goals as goal
use Rattle.automata.proofs.Fronts.{front_by_step}
use Rattle.automata.proofs.Widths.{front_inside, start_bounds}
use Rattle.automata.proofs.Moves.{front_by_moves}

pub returns : goal.returns
returns c = record { steps = front_by_step; inside = front_inside; bounds = start_bounds; moves = front_by_moves }
