use Rattle.std.proofs.Common.{◌≡◌, Ok, Err, inl, inr, lit≤, rules}
use Rattle.std.proofs.lemmas.Result.{err_from_is_err_and}
use Rattle.symbols.specs.contracts.letters.LettersKind.TheImpl.{ghosts as letters}
use Rattle.bit_bank.specs.contracts.calls.BitBankBank.TheImpl.{ghosts as bits}
use Rattle.symbol_rows.specs.declared.row.RowRefusal.{RowRefusal}
use Rattle.sessions.specs.Runs.{RowLaid, OpenedOn}
use Rattle.par_report.proofs.Judging.{right_laid, refused_laid}
use Rattle.c_interface.proofs.Bytes.{needed}
use Rattle.c_interface.proofs.needs.need_of_row.Goals as goal

pub returns-in_err-map_err : goal.returns-in_err-map_err
returns-in_err-map_err c =
    let text = c.args.pattern.now in
    let row = c.args.row.now in
    let opened : OpenedOn letters bits text c.in_ok-session.session = search rules in
    let p = err_from_is_err_and c.from_residual-in_err-map_err.result c.from_residual-in_err-map_err.ensures.1 in
    let (e, is) : (e : RowRefusal) × (c.lay_row.result ≡ Err e) = search rules in
    let (less, run) = rw is at c.lay_row.ensures in
    let (accepted, symbol, none) = refused_laid text row e.before e.refusal _ _ opened.right less run in
    rw p.1 (inr (inl (e.before, none)))

pub returns : goal.returns
returns c =
    let text = c.args.pattern.now in
    let row = c.args.row.now in
    let opened : OpenedOn letters bits text c.in_ok-session.session = search rules in
    let laid : RowLaid letters bits c.in_ok-session.session row (Ok tt) c.lay_row.new.self = search rules in
    let on = (right_laid text row _ _ opened.right laid).front_right in
    needed text row c.need_again.result (opened.plan_of.tree, opened.plan_of.accepted) (c.need_again.ensures (lit≤ tt) text row on)
