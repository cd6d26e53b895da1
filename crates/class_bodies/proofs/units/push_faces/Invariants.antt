use Rattle.std.proofs.Common.{◌≡◌, ℕ, true, not, ◌&&◌, vec_items}
use Rattle.bits.specs.Members.{member}
use Rattle.class_bodies.specs.ClassBody.{SpellsMore, codes_of_colour}
use Rattle.class_bodies.proofs.units.push_faces.Given as goal

-- What is left are codes of the colour, and those that are not left are spelled.
abbrev pub invariant-loop-code : goal.invariant-loop-code
invariant-loop-code l =
    record {
      left : (k : ℕ) → member l.code-iterator.left k ≡ true → codes_of_colour l.fn.codes l.colour k ≡ true;
      passed : SpellsMore 2 (vec_items l.initial.body) (vec_items l.body) (λ k. codes_of_colour l.fn.codes l.colour k && not (member l.code-iterator.left k));
    }
