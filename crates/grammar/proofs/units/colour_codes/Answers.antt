use Rattle.std.proofs.Common.{◌∙◌}
use Rattle.grammar.proofs.Spelling.{colour_span}
use Rattle.grammar.proofs.units.colour_codes.Goals as goal

pub returns : goal.returns
returns c k =
    let n = c.number-first.ensures in
    (rw n.0 at c.span.ensures k) ∙ colour_span _ k (rw n.0 at n.1)
