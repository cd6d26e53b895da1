use Rattle.std.proofs.Common.{◌≡◌, take, Ok, Err, ◌∙◌, subst, rules}
use Rattle.std.proofs.lemmas.List.{get_or_default}
use Rattle.std.proofs.lemmas.Result.{err_from_is_err_and}
use Rattle.sessions.specs.Calls.{Laid, laid_all}
use Rattle.sessions.specs.Sessions.{Did}
use Rattle.sessions.specs.Runs.{done}
use Rattle.sessions.proofs.RowsLaid.{run_more, laid_more}
use Rattle.sessions.proofs.session.Session.lay_row.Goals as goal

pub loop-before-init : goal.loop-before-init
loop-before-init g c = done

pub loop-before-preserved : goal.loop-before-preserved
loop-before-preserved g c =
    let ok : c.lay.result ≡ Ok tt = search rules in
    laid_more g.K.Kind g.B.Bank c.args.row.now c.loop-before.before-counter c.index-row-before.result _ _ _ c.loop-before-test.true c.index-row-before.is
    c.loop-before.invariant (rw ok at c.lay.ensures)

pub returns-in_err-map_err : goal.returns-in_err-map_err
returns-in_err-map_err g c =
    let row = c.args.row.now in
    let i = c.loop-before.before-counter in
    let e = c.in_err-map_err.field-0.0 in
    let p = err_from_is_err_and c.from_residual.result c.from_residual.ensures.1 in
    let is : (c.lay.result ≡ Err e.refusal) × (e.before ≡ i) = search rules in
    let laid = rw is.0 at c.lay.ensures in
    rw (p.1, p.2, is.1) (
      c.loop-before-test.true,
      λ x.
          run_more g.K.Kind g.B.Bank (laid_all (take i row)) _ _ _ (Laid _ (Err e.refusal)) c.loop-before.invariant
          (subst (λ y. Did g.K.Kind g.B.Bank c.loop-before.self (Laid y (Err e.refusal)) c.lay.new.self)
          (c.index-row-before.is ∙ get_or_default row i c.index-row-before.result x c.loop-before-test.true) laid),
    )
