use Rattle.std.proofs.Common.{◌≡◌, ℕ, ◌+◌, not, ◌&&◌, eqb, ltb}
use Rattle.bits.specs.Members.{member}
use Rattle.tables.specs.Tables.{links_of}
use Rattle.distances.proofs.build.targets_of.Given as goal

-- The places passed are there where a link leads to them.
abbrev pub invariant-loop-k : goal.invariant-loop-k
invariant-loop-k l = (a : ℕ) → member l.targets a ≡ (ltb a l.k && not (eqb (links_of l.table l.p (a + 1)) 0))
