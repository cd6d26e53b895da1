use Rattle.std.proofs.Common.{◌≡◌, false, inr, ◌∙◌, subst, rules}
use Rattle.std.proofs.lemmas.List.{get_or_default}
use Rattle.std.proofs.lemmas.Result.{err_from_is_err_and}
use Rattle.refusals.specs.declared.Refusal.TheVariants.{Symbol}
use Rattle.symbol_rows.proofs.row.row_codes.Goals as goal

pub returns-in_err-code : goal.returns-in_err-code
returns-in_err-code g c =
    let row = c.args.row.now in
    let i = c.loop-before.before-counter in
    let less = c.loop-before-test.true in
    let e = c.in_err-code.field-0.0 in
    let p = err_from_is_err_and c.from_residual.result c.from_residual.ensures.1 in
    let is : (e.refusal ≡ Symbol) × (e.before ≡ i) = search rules in
    let bad : g.K.Kind.valid c.index-row-before.result ≡ false = search rules in
    rw (p.1, p.2, is.1) (inr (
      is.0,
      (
        less,
        c.loop-before.invariant.0,
        λ x. subst (λ y. g.K.Kind.valid y ≡ false) (c.index-row-before.is ∙ get_or_default row i c.index-row-before.result x less) bad,
      ),
    ))
