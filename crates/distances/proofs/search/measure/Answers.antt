-- The sweeps begin with no mark, and end with marks that are the distances.
use Rattle.std.proofs.Common.{◌≡◌, ℕ, ◌<◌, ◌++◌, drop, get_or, length-take, sym, refl, ap, ◌∙◌, subst, arith}
use Rattle.widths.specs.Width.{widths_of}
use Rattle.tables.specs.declared.table.Table.{Table}
use Rattle.distances.specs.Marks.{Measured}
use Rattle.distances.proofs.Chunks.{measured}
use Rattle.distances.proofs.Once.{measured_once}
use Rattle.distances.proofs.Writes.{ground_zero}
use Rattle.distances.proofs.search.measure.Goals as goal

pub returns-in_err-marks-clause-unique : goal.returns-in_err-marks-clause-unique
returns-in_err-marks-clause-unique c = measured_once

pub returns-clause-unique : goal.returns-clause-unique
returns-clause-unique c = measured_once

pub returns-clause-answer : goal.returns-clause-answer
returns-clause-answer c =
    let chunk = rw c.in_ok-marks.ensures.ok_part at c.first_chunk_mut.ensures.cases in
    let g = c.graph_of.result in
    let zeros = c.fill.new.self in
    let zero : (k : ℕ) → k < 4096 → get_or zeros k 0 ≡ 0 = λ k h. c.fill.ensures.clones k 0 (omega arith) refl in
    let same : widths_of g.layout ≡ g.table.now.widths = c.graph_of.ensures.widths ∙ sym (ap (λ (t : Table). t.widths) c.graph_of.ensures.table) in (
      omega (arith, chunk),
      subst (λ (t : Table). Measured t c.args.area.now (c.settle.new.area ++ drop 4096 c.args.area.now)) c.graph_of.ensures.table
          (measured g c.args.area.now zeros c.settle.new.area same zero c.settle.ensures),
    )

pub settle-requires : goal.settle-requires
settle-requires c =
    let chunk = rw c.in_ok-marks.ensures.ok_part at c.first_chunk_mut.ensures.cases in
    ground_zero c.graph_of.result c.fill.new.self (λ k h. c.fill.ensures.clones k 0 (omega (arith, chunk, length-take {A = ℕ})) refl)
