-- Behind the last place there is no pair; one block more is swept; before the start there is no place.
use Rattle.std.proofs.Common.{◌<◌, ◌≤◌, inl, inr, ⊎_elim, arith}
use Rattle.std.proofs.lemmas.Bool.{cases_lt}
use Rattle.distances.proofs.Sweeps.{sweeps_more}
use Rattle.distances.proofs.graph.Graph.sweep.Goals as goal

pub loop-end-preserved : goal.loop-end-preserved
loop-end-preserved c =
    let g = c.args.self.now in
    let e = c.loop-end.end in
    let lo = c.block-lo.result in (
      omega arith,
      sweeps_more g c.args.area.now c.loop-end.area c.sweep_block-moved.new.area
          (λ a b. e ≤ a) (λ a b. (lo ≤ a) × (a < e)) (λ a b. lo ≤ a) c.loop-end.moved c.sweep_block-moved.result
          (λ a b u d. ⊎_elim (λ (x : a < e). inr (u, x)) (λ (x : e ≤ a). inl x) (cases_lt a e))
          c.loop-end.invariant.1 c.sweep_block-moved.ensures,
    )
