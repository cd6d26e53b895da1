use Rattle.std.proofs.Common.{◌≡◌, ◌<◌, ◌≤◌}
use Rattle.distances.specs.Search.{Sweeps}
use Rattle.distances.proofs.graph.Graph.sweep_count.Given as goal

abbrev pub invariant-loop-p : goal.invariant-loop-p
invariant-loop-p l = (l.lo ≤ l.p) × Sweeps l.self l.initial.area l.area (λ a b. (l.p ≤ a) × (a < l.end) × (b ≡ l.i)) l.moved
