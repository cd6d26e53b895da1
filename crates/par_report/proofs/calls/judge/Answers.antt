use Rattle.std.proofs.Common.{rules, refl, inr}
use Rattle.std.proofs.lemmas.Result.{err_from_is_err_and}
use Rattle.symbols.specs.contracts.letters.LettersKind.TheImpl.{ghosts as letters}
use Rattle.plans.specs.Plans.{PlanOf}
use Rattle.par_report.proofs.Judging.{right_laid, refused_laid}
use Rattle.par_report.proofs.calls.judge.Goals as goal

pub returns-in_err-lay_row : goal.returns-in_err-lay_row
returns-in_err-lay_row c =
    let text = c.args.pattern.now in
    let row = c.args.row.now in
    let e = c.in_err-lay_row.field-0.0 in
    let p = err_from_is_err_and c.from_residual-in_err-lay_row.result c.from_residual-in_err-lay_row.ensures.1 in
    let plan : PlanOf letters text c.read.new.self = search rules in
    let (less, run) = c.in_err-lay_row.ensures in
    rw (p.1, p.2) (refl, inr (refused_laid text row e.before e.refusal _ _ (c.open-session.ensures.right text plan) less run))

pub returns : goal.returns
returns c =
    let text = c.args.pattern.now in
    let row = c.args.row.now in
    let plan : PlanOf letters text c.read.new.self = search rules in
    c.tell.ensures text row (right_laid text row _ _ (c.open-session.ensures.right text plan) c.in_ok-lay_row.ensures)
