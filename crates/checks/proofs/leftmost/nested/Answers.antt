use Rattle.std.proofs.Common.{rules}
use Rattle.checks.specs.Searches.{nested}
use Rattle.checks.proofs.leftmost.nested.Goals as goal

pub returns : goal.returns
returns c = c.leftmost.ensures nested (λ n r told. search rules)
