use Rattle.std.proofs.Common.{◌∙◌}
use Rattle.bits.specs.Members.{member}
use Rattle.class_bodies.proofs.UnitCodes.{made_like, colour_codes, all_faces}
use Rattle.class_bodies.proofs.units.push_colour.Goals as goal

pub returns-then-is_empty : goal.returns-then-is_empty
returns-then-is_empty c =
    let codes = c.args.codes in
    let none = c.is_empty.ensures.0 c.if-is_empty.true in
    made_like 2 c.push_tile.result _ _ _ _
    (λ k. colour_codes c.args.colour k
    ∙ all_faces _ _ (member codes k) (rw (c.colour_codes.ensures k) at (c.difference.ensures k)) (none k))
    c.push_tile.ensures
