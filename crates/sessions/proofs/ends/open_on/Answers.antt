use Rattle.std.proofs.Common.{rules, sym, subst}
use Rattle.widths.specs.Width.{width_of}
use Rattle.banks.specs.Meaning.{Started}
use Rattle.plans.specs.declared.plan.Plan.{Plan}
use Rattle.plans.specs.Plans.{PlanOf}
use Rattle.sessions.proofs.ends.open_on.Goals as goal

pub returns : goal.returns
returns g c =
    let plan : PlanOf g.K.Kind c.args.text.now c.read.new.self = search rules in
    let same = sym c.open.ensures.same in
    record {
      plan_of = subst (λ (p : Plan g.row.K.Denot). PlanOf g.K.Kind c.args.text.now p) same plan;
      started = subst (λ (p : Plan g.row.K.Denot). Started g.B.Bank.means (width_of p.table.widths) c.open.result.bank) same c.open.ensures.started;
      right = c.open.ensures.right c.args.text.now plan;
    }
