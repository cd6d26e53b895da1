use Rattle.std.proofs.Common.{◌&&◌, ltb, ap, ◌∙◌, arith}
use Rattle.bits.specs.Members.{member}
use Rattle.class_bodies.proofs.UnitCodes.{codes_like, spells_none, none_below, run_codes}
use Rattle.class_bodies.proofs.units.letters_body.Goals as goal

pub loop-low-init : goal.loop-low-init
loop-low-init c =
    (omega arith, spells_none 1 _ _ c.new-body.ensures.items (λ k. ap (λ v. v && ltb k 26) (none_below (member c.args.codes k) k)))

pub loop-low-preserved : goal.loop-low-preserved
loop-low-preserved c =
    let bound = c.run_end-end.ensures.bound in
    let codes = c.args.codes in (
      omega arith,
      codes_like 1 _ _ _
          (λ k. run_codes (member codes k) k c.loop-low.low c.run_end-end.result bound.0 bound.1 (c.run_end-end.ensures.before k) (λ e l. ap (member codes) e ∙ c.run_end-end.ensures.here l))
          (c.in_ok-push_run.ensures _ c.loop-low.invariant.1),
    )
