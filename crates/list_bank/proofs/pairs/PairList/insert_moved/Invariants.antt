use Rattle.std.proofs.Common.{◌≡◌}
use Rattle.list_bank.specs.Means.{pairs_of}
use Rattle.list_bank.proofs.Moves.{with_moved}
use Rattle.list_bank.proofs.pairs.PairList.insert_moved.Given as goal

-- the pairs of the front so far, moved, are in
abbrev pub invariant-loop-x : goal.invariant-loop-x
invariant-loop-x l = pairs_of l.next ≡ with_moved (pairs_of l.initial.next) l.x-items l.p l.q l.by l.width l.x-index
