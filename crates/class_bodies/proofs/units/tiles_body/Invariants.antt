use Rattle.std.proofs.Common.{◌*◌, ◌&&◌, ltb, vec_items}
use Rattle.bits.specs.Members.{member}
use Rattle.class_bodies.specs.ClassBody.{SpellsCodes}
use Rattle.class_bodies.proofs.units.tiles_body.Given as goal

-- The colours so far are spelled.
abbrev pub invariant-loop-colour : goal.invariant-loop-colour
invariant-loop-colour l = SpellsCodes 2 (vec_items l.body) (λ c. member l.codes c && ltb c (10 * l.colour-index))
