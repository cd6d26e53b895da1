use Rattle.std.proofs.Common.{◌≡◌, ◌+◌, Ok, sym, subst, arith}
use Rattle.std.proofs.lemmas.Result.{err_from_is_err_and}
use Rattle.banks.specs.Meaning.{Looked}
use Rattle.steps.proofs.Leaves.{Below, below_begins, below_left, below_passed, below_refused}
use Rattle.steps.proofs.moves.gather.Goals as goal
use Rattle.steps.proofs.moves.gather.Goals.{then-look+in_ok-leave, else-look}

pub loop-p-init : goal.loop-p-init
loop-p-init g c = λ fresh. below_begins g.B.Bank.means c.args.table.now c.args.code c.args.bank.now g.met.B.Bank.facts fresh

pub returns-in_err-leave : goal.returns-in_err-leave
returns-in_err-leave g c = λ fresh.
    let m = g.B.Bank.means in
    let t = c.args.table.now in
    let k = below_left m t c.args.code c.args.bank.now c.loop-p.p _ _ _ (c.loop-p.invariant fresh) c.in_err-leave.ensures in
    let x = err_from_is_err_and c.from_residual.result c.from_residual.ensures.1 in
    rw (x.1, x.2) (below_refused m t c.args.code c.args.bank.now g.met.B.Bank.facts (c.loop-p.p + 1) (t.places + 1) _ _ fresh.stands (omega arith) k)

pub loop-p-preserved : goal.loop-p-preserved
loop-p-preserved g c = λ fresh.
    let m = g.B.Bank.means in
    let t = c.args.table.now in
    let b = c.args.bank.now in
    let p = c.loop-p.p in
    elim c.if-look.branch [
      | then-look+in_ok-leave w ↦
          subst (λ v. Below m t c.args.code b (p + 1) (Ok tt) v) (sym w.bank-is)
          (below_left m t c.args.code b p _ _ _ (c.loop-p.invariant fresh) w.in_ok-leave.ensures)
      | else-look w ↦
          subst (λ v. Below m t c.args.code b (p + 1) (Ok tt) v) (sym w.bank-is)
          (below_passed m t c.args.code b p _ c.look.result fresh (c.loop-p.invariant fresh)
          (λ stands. subst (λ v. Looked m p 1 v c.loop-p.bank c.look.result) c.width_at.ensures (c.look.ensures stands)) w.if-look.false)
    ]

pub returns : goal.returns
returns g c = λ fresh.
    let t = c.args.table.now in
    let e : c.loop-p.p ≡ t.places + 1 = omega arith in
    subst (λ v. Below g.B.Bank.means t c.args.code c.args.bank.now v (Ok tt) c.loop-p.bank) e (c.loop-p.invariant fresh)
