use Rattle.distances.specs.Search.{Ground, Behind, rest}
use Rattle.distances.proofs.graph.Graph.settle.Given as goal

abbrev pub invariant-loop : goal.invariant-loop
invariant-loop l = Ground l.self l.area × Behind l.self l.initial.area l.area

abbrev pub decreases-loop : goal.decreases-loop
decreases-loop l = rest l.area
