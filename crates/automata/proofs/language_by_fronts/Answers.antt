-- The language and the fronts.
use Rattle.automata.proofs.language_by_fronts.Goals as goal
use Rattle.automata.proofs.Fronts.{language_by_fronts_lem}

pub returns : goal.returns
returns c = record { decides = language_by_fronts_lem }
