use Rattle.std.proofs.Common.{◌-◌, ◌≤◌, ◌&&◌, ltb, vec_items}
use Rattle.bits.specs.Members.{member}
use Rattle.class_bodies.specs.ClassBody.{SpellsCodes}
use Rattle.class_bodies.proofs.units.letters_body.Given as goal

-- The codes below `low` are spelled.
abbrev pub invariant-loop-low : goal.invariant-loop-low
invariant-loop-low l = (l.low ≤ 27) × SpellsCodes 1 (vec_items l.body) (λ c. (member l.codes c && ltb c l.low) && ltb c 26)

abbrev pub decreases-loop-low : goal.decreases-loop-low
decreases-loop-low l = 27 - l.low
