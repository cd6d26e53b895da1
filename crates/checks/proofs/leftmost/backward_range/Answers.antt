use Rattle.std.proofs.Common.{rules}
use Rattle.checks.specs.Searches.{backward}
use Rattle.checks.proofs.leftmost.backward_range.Goals as goal

pub returns : goal.returns
returns c = c.leftmost.ensures backward (λ n r told. search rules)
