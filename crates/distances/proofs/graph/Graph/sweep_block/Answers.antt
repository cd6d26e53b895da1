-- Above the greatest width there is no pair; one count more is swept; below 1 there is no count.
use Rattle.std.proofs.Common.{◌≡◌, ◌-◌, ◌<◌, ◌≤◌, inl, inr, ⊎_elim, arith}
use Rattle.std.proofs.lemmas.Bool.{cases_lt}
use Rattle.distances.proofs.Sweeps.{sweeps_none, sweeps_fewer, sweeps_more}
use Rattle.distances.proofs.graph.Graph.sweep_block.Goals as goal

pub loop-i-init : goal.loop-i-init
loop-i-init c =
    sweeps_none c.args.self.now c.args.area.now (λ a b. (c.args.lo ≤ a) × (a < c.args.end) × (c.tallest-i.result < b))
    (λ a b u d. let w = c.tallest-i.ensures a u.0 u.1 in omega (arith, u.2, d.2))

pub loop-i-preserved : goal.loop-i-preserved
loop-i-preserved c =
    let g = c.args.self.now in
    let i = c.loop-i.i in
    let lo = c.args.lo in
    let e = c.args.end in
    sweeps_more g c.args.area.now c.loop-i.area c.sweep_count-moved.new.area
    (λ a b. (lo ≤ a) × (a < e) × (i < b)) (λ a b. (lo ≤ a) × (a < e) × (b ≡ i)) (λ a b. (lo ≤ a) × (a < e) × (i - 1 < b))
    c.loop-i.moved c.sweep_count-moved.result
    (λ a b u d. ⊎_elim (λ (x : i < b). inl (u.0, u.1, x)) (λ (x : b ≤ i). inr (u.0, u.1, omega (arith, u.2))) (cases_lt i b))
    c.loop-i.invariant c.sweep_count-moved.ensures

pub returns : goal.returns
returns c =
    let i = c.loop-i.i in
    let lo = c.args.lo in
    let e = c.args.end in
    sweeps_fewer c.args.self.now c.args.area.now c.loop-i.area (λ a b. (lo ≤ a) × (a < e) × (i < b)) (λ a b. (lo ≤ a) × (a < e)) c.loop-i.moved
    (λ a b u d. (u.0, u.1, omega (arith, d.1)))
    c.loop-i.invariant
