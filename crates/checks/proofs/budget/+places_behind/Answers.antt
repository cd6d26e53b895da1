-- The 65th place stands in the first of two parts, or in the second, or nowhere.
use Rattle.std.proofs.Common.{sym, subst}
use Rattle.checks.specs.Faults.{UpTo64}
use Rattle.checks.proofs.PlaceCounts.{in_first, in_rest, parts}
use Rattle.checks.proofs.budget.+places_behind.Goals as goal

pub returns-in_err-places_behind-in-Cat : goal.returns-in_err-places_behind-in-Cat
returns-in_err-places_behind-in-Cat t c =
    let first = rw c.deref-in-Cat-2.ensures at c.in_err-places_behind-in-Cat.ensures in
    rw (parts c.in-Cat.is) (in_first c.args.seen _ _ _ c.from_residual.result c.requires first c.from_residual.ensures.1)

pub returns-in_ok-places_behind-in-Cat : goal.returns-in_ok-places_behind-in-Cat
returns-in_ok-places_behind-in-Cat t c =
    let first = rw c.deref-in-Cat-2.ensures at c.in_ok-places_behind-in-Cat.ensures in
    let rest = rw c.deref-in-Cat.ensures at c.places_behind-in-Cat-2.ensures in
    subst (λ v. UpTo64 c.args.seen v c.places_behind-in-Cat-2.result) (sym (parts c.in-Cat.is)) (in_rest c.args.seen c.in_ok-places_behind-in-Cat.field-0 _ _ c.places_behind-in-Cat-2.result first rest)
