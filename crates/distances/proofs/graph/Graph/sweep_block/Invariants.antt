use Rattle.std.proofs.Common.{◌<◌, ◌≤◌}
use Rattle.distances.specs.Search.{Sweeps}
use Rattle.distances.proofs.graph.Graph.sweep_block.Given as goal

abbrev pub invariant-loop-i : goal.invariant-loop-i
invariant-loop-i l = Sweeps l.self l.initial.area l.area (λ a b. (l.lo ≤ a) × (a < l.end) × (l.i < b)) l.moved
