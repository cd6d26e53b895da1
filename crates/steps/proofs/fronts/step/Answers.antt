use Rattle.std.proofs.Common.{sym, subst}
use Rattle.steps.specs.Fronts.{Stepped}
use Rattle.steps.proofs.Turns.{started_fresh, step_ended}
use Rattle.steps.proofs.Relation.{step_is}
use Rattle.steps.proofs.fronts.step.Goals as goal

pub returns : goal.returns
returns g c =
    let m = g.B.Bank.means in
    let t = c.args.table.now in
    let b = c.args.bank.now in
    record {
      answer = λ fresh. subst (λ r. Stepped m t c.args.code b r c.finish.new.bank) (sym c.finish.ensures.value)
          (step_ended m t c.args.code b fresh c.gather-gathered.result c.gather-gathered.new.bank c.finish.new.bank
          (c.gather-gathered.ensures fresh) c.finish.ensures.after);
      relation = λ fresh. step_is t c.args.code (m.front b) fresh.inside;
      begins = λ s h. started_fresh m t s h;
    }
