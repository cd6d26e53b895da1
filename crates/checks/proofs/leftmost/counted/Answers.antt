use Rattle.std.proofs.Common.{rules}
use Rattle.checks.specs.Searches.{counted}
use Rattle.checks.proofs.leftmost.counted.Goals as goal

pub returns : goal.returns
returns c = c.leftmost.ensures counted (λ n r told. search rules)
