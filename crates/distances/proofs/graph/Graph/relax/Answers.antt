-- A better mark is written, or there is none.
use Rattle.std.proofs.Common.{◌≡◌, ◌<◌, ◌≤◌, true, ◌⊎◌, length, get_or, refl, inl, inr, ⊎_elim, arith}
use Rattle.std.proofs.lemmas.Bool.{both_ways}
use Rattle.distances.specs.Graphs.{Pair}
use Rattle.distances.proofs.Writes.{write_ground, write_behind, write_falls}
use Rattle.distances.proofs.graph.Graph.relax.Goals as goal

pub returns-then-r-old : goal.returns-then-r-old
returns-then-r-old c = λ ground.
    let g = c.args.self.now in
    let l = c.args.area.now in
    let p = c.args.p in
    let i = c.args.i in
    let r = c.due-r.result in
    let k = c.number-k.result in
    let d : Pair g p i = (c.requires.place, c.requires.count, omega arith) in
    let some : 1 ≤ r = omega arith in
    let long : 4096 ≤ length l = omega arith in
    let better : (get_or l k 0 ≡ 0) ⊎ (r < get_or l k 0) = ⊎_elim (λ a. inl a) (λ b. inr b.1) c.if-r-old.either in
    record {
      ground = write_ground g l long p i r k d c.number-k.ensures.value ground c.due-r.ensures some better;
      behind = write_behind g l long p i r k d c.number-k.ensures.value ground c.due-r.ensures;
      falls = λ _. write_falls g l long p i r k d c.number-k.ensures.value ground c.due-r.ensures some better;
      still = λ e. absurd (both_ways true e refl);
    }
