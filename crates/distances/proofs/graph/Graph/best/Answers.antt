-- At first no target is passed.
use Rattle.std.proofs.Common.{sym, ap, ◌∙◌, arith}
use Rattle.std.proofs.lemmas.List.{get_or_default}
use Rattle.bits.specs.declared.set.Set64.{Set64}
use Rattle.bits.specs.Members.{member}
use Rattle.tables.specs.Masks.{no_set}
use Rattle.distances.proofs.Targets.{better_first}
use Rattle.distances.proofs.graph.Graph.best.Goals as goal

pub loop-k-init : goal.loop-k-init
loop-k-init c =
    let g = c.args.self.now in
    let few = g.table.now.few in
    let full = g.full in
    let upto = c.requires.0 in
    let is = c.into_iter-k-iterator.ensures.into_iter_gives ∙ get_or_default g.targets c.args.p c.index-self-p.result no_set (omega arith) in (
      (λ k h. sym (ap (λ (s : Set64). member s k) is) ∙ h),
      better_first g c.args.area.now c.args.p c.args.i c.requires c.into_iter-k-iterator.result.left is,
    )
