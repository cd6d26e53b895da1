use Rattle.std.proofs.Common.{◌≡◌, ℕ, ◌-◌, true, false, get_or}
use Rattle.bits.specs.Members.{member}
use Rattle.tables.specs.Masks.{no_set}
use Rattle.distances.specs.Graphs.{Leads, mark_in}
use Rattle.distances.specs.Search.{Better}
use Rattle.distances.proofs.graph.Graph.best.Given as goal

-- What is left are targets; what was found is the best that the links to the others allow.
abbrev pub invariant-loop-k : goal.invariant-loop-k
invariant-loop-k l =
    ((k : ℕ) → member l.k-iterator.left k ≡ true → member (get_or l.self.targets l.p no_set) k ≡ true)
    × Better (mark_in l.self l.area) (λ a b. (member l.k-iterator.left (a - 1) ≡ false) × Leads l.self l.p l.i a b) 0 l.r
