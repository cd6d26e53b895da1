use Rattle.std.proofs.Common.{ℕ, sym, subst, inl}
use Rattle.c_interface.specs.Told.{NeedAnswered}
use Rattle.c_interface.proofs.exports.jothwila_need.Goals as goal

pub returns-in-Ok : goal.returns-in-Ok
returns-in-Ok c = subst (λ (n : ℕ). NeedAnswered c.args.pattern.now c.args.row.now n) (sym c.from.ensures) (inl c.in-Ok.ensures)
