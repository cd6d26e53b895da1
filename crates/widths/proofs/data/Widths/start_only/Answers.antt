use Rattle.std.proofs.Common.{refl, arith, lit≤}
use Rattle.std.proofs.lemmas.Bool.Decides.{nat_tests}
use Rattle.widths.proofs.Rows.{get_or_start}
use Rattle.widths.proofs.data.Widths.start_only.Goals as goal

pub invariant_of-result : goal.invariant_of-result
invariant_of-result c = record { long = refl; start = refl; each = λ p h. let e = get_or_start p in grind (arith, nat_tests); total = lit≤ tt }

pub returns : goal.returns
returns c = get_or_start
