use Rattle.std.proofs.Common.{◌+◌, ◌≤◌}
use Rattle.distances.specs.Search.{Sweeps}
use Rattle.distances.proofs.graph.Graph.sweep.Given as goal

abbrev pub invariant-loop-end : goal.invariant-loop-end
invariant-loop-end l = (l.end ≤ l.self.table.now.places + 1) × Sweeps l.self l.initial.area l.area (λ a b. l.end ≤ a) l.moved

abbrev pub decreases-loop-end : goal.decreases-loop-end
decreases-loop-end l = l.end
