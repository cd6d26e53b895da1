use Rattle.std.proofs.Common.{vec_items, subst, inl}
use Rattle.std.proofs.lemmas.Result.{err_from_is_err_and}
use Rattle.symbol_rows.specs.Rows.{RowRefused}
use Rattle.row_report.proofs.Known.{memory_only}
use Rattle.row_report.proofs.describe.Goals as goal

pub returns-in_err-codes : goal.returns-in_err-codes
returns-in_err-codes g c =
    let p = err_from_is_err_and c.from_residual-in_err-codes.result c.from_residual-in_err-codes.ensures.1 in
    let row = vec_items c.in_ok-row.row in
    let refused = subst (λ xs. RowRefused g.K.Kind xs c.in_err-codes.field-0.0) c.as_slice.ensures.value c.in_err-codes.ensures in
    rw (p.1, p.2) (inl (memory_only g.K.Kind row _ c.in_ok-row.ensures.0 refused))

pub returns-in_err-spelled : goal.returns-in_err-spelled
returns-in_err-spelled g c =
    let p = err_from_is_err_and c.from_residual-in_err-spelled.result c.from_residual-in_err-spelled.ensures.1 in
    let row = vec_items c.in_ok-row.row in
    let refused = subst (λ xs. RowRefused g.K.Kind xs c.in_err-spelled.field-0.0) c.as_slice-2.ensures.value c.in_err-spelled.ensures in
    rw (p.1, p.2) (inl (memory_only g.K.Kind row _ c.in_ok-row.ensures.0 refused))
