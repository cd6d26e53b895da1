use Rattle.std.proofs.Common.{◌≡◌, ℕ, ◌+◌, ◌<◌, not, ◌&&◌, eqb, ltb, get_or}
use Rattle.bits.specs.Members.{member}
use Rattle.tables.specs.Masks.{no_set}
use Rattle.tables.specs.Tables.{links_of}
use Rattle.distances.proofs.build.all_targets.Given as goal

-- The places passed have their targets.
abbrev pub invariant-loop-p : goal.invariant-loop-p
invariant-loop-p l =
    (a k : ℕ) → a < l.p → member (get_or l.target-items a no_set) k ≡ (ltb k l.table.places && not (eqb (links_of l.table a (k + 1)) 0))
