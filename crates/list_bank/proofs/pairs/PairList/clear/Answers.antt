use Rattle.std.proofs.Common.{ℕ, List, length, ap}
use Rattle.list_bank.specs.Listed.{listed}
use Rattle.list_bank.proofs.pairs.PairList.clear.Goals as goal

pub returns : goal.returns
unfolding listed
returns c = ap (λ (xs : List (ℕ × ℕ)). listed xs (length xs)) c.clear.ensures
