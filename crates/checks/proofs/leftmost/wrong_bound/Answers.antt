use Rattle.std.proofs.Common.{rules}
use Rattle.checks.specs.Searches.{bounds}
use Rattle.checks.proofs.leftmost.wrong_bound.Goals as goal

pub returns : goal.returns
returns c = c.leftmost.ensures bounds (λ n r told. search rules)
