-- One place more is swept.
use Rattle.std.proofs.Common.{◌≡◌, ◌-◌, ◌<◌, ◌≤◌, inl, inr, ⊎_elim, arith}
use Rattle.std.proofs.lemmas.Bool.{cases_lt}
use Rattle.distances.proofs.Sweeps.{sweeps_more}
use Rattle.distances.proofs.graph.Graph.sweep_count.Goals as goal

pub loop-p-preserved : goal.loop-p-preserved
loop-p-preserved c =
    let g = c.args.self.now in
    let p = c.loop-p.p in
    let i = c.args.i in
    let e = c.args.end in (
      omega arith,
      sweeps_more g c.args.area.now c.loop-p.area c.relax-moved.new.area
          (λ a b. (p ≤ a) × (a < e) × (b ≡ i)) (λ a b. (a ≡ p - 1) × (b ≡ i)) (λ a b. (p - 1 ≤ a) × (a < e) × (b ≡ i))
          c.loop-p.moved c.relax-moved.result
          (λ a b u d. ⊎_elim (λ (x : a < p). inr (omega (arith, u.0), u.2)) (λ (x : p ≤ a). inl (x, u.1, u.2)) (cases_lt a p))
          c.loop-p.invariant.1 c.relax-moved.ensures,
    )
