use Rattle.std.proofs.Common.{rules}
use Rattle.checks.specs.Searches.{no_code}
use Rattle.checks.proofs.leftmost.empty_class.Goals as goal

pub returns : goal.returns
returns c = c.leftmost.ensures no_code (λ n r told. search rules)
