use Rattle.std.proofs.Common.{◌+◌, ◌∙◌, arith, rules, tests}
use Rattle.std.proofs.lemmas.Iterator.{YieldsList-from_range, YieldsList-from_map}
use Rattle.std.proofs.lemmas.Iterator.Adapters.{fits_from_length, at_most_from_yields_List}
use Rattle.std.proofs.lemmas.Iterator.Consumers.{sum_from_yields_List}
use Rattle.std.proofs.lemmas.List.FromFn.{length-range_with_len}
use Rattle.widths.specs.Width.{width_of}
use Rattle.descriptions.proofs.CountsUsed.{sum_from_start, counts_told}
use Rattle.descriptions.proofs.places.counts_used.Goals as goal

pub sum-requires-clause-fits : goal.sum-requires-clause-fits
sum-requires-clause-fits c =
    let n = c.args.table.now.places + 1 in
    fits_from_length _ _ 65 _ (at_most_from_yields_List (YieldsList-from_range 0 n n (cc) (omega arith)) (omega (arith, length-range_with_len 0 n)))
    c.map.ensures.closure (omega arith) (λ x r q k. search (rules, tests))

pub returns : goal.returns
returns c e of =
    let t = c.args.table.now in
    let f = width_of t.widths in
    let n = t.places + 1 in
    sum_from_yields_List c.map.result c.sum.result c.sum.ensures.ran
    (YieldsList-from_map _ f (YieldsList-from_range 0 n n (cc) (omega arith)) c.map.ensures.closure (λ x r q k. search (rules, tests)))
    ∙ sum_from_start f t.places ∙ counts_told e t of
