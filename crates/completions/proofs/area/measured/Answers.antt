use Rattle.std.proofs.Common.{◌≡◌, ℕ, ap, sym, ◌∙◌, subst}
use Rattle.automata.specs.Distances.{Labelled}
use Rattle.widths.specs.declared.data.Widths.{Widths}
use Rattle.distances.specs.Marks.{mark_at, mark_of}
use Rattle.completions.proofs.area.measured.Goals as goal

pub returns-clause-told : goal.returns-clause-told
returns-clause-told g c = λ full fresh.
    let same : mark_at c.args.table.now.widths c.measure.new.area ≡ mark_of c.of-marks.result =
    ap (λ (w : Widths). mark_at w c.measure.new.area) (sym c.widths.ensures) ∙ sym c.of-marks.ensures in (
      _,
      c.nearest-found.result,
      λ e formed of. subst (λ (l : ℕ → ℕ → ℕ). Labelled e l) same (c.in_ok-measure.ensures.answer.1.labels e formed of),
      λ e of. c.nearest-found.ensures e of fresh,
      c.tell-told.ensures,
    )
