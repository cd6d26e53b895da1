use Rattle.std.proofs.Common.{◌+◌, ◌-◌, [], ◌∷◌, vec_items, arith}
use Rattle.class_bodies.proofs.BodyEnds.{letter_more, range_more}
use Rattle.class_bodies.proofs.UnitCodes.{codes_of_letter_lem, codes_of_range_lem, more_like, more_made}
use Rattle.class_bodies.proofs.units.push_run.Goals as goal

pub returns-in-1 : goal.returns-in-1
returns-in-1 c =
    let a = 97 + c.args.low in
    let s = vec_items c.args.body.now in
    more_made 1 c.extend_from_slice.result s (a ∷ []) _ _ c.extend_from_slice.ensures.items
    (more_like 1 s _ _ _ (λ k. codes_of_letter_lem c.args.low c.args.end k (omega arith) (omega arith)) (letter_more s a (omega arith, omega arith)))

pub returns-in_default : goal.returns-in_default
returns-in_default c =
    let a = 97 + c.args.low in
    let b = 97 + (c.args.end - 1) in
    let s = vec_items c.args.body.now in
    more_made 1 c.extend_from_slice-in_default.result s (a ∷ 45 ∷ b ∷ []) _ _ c.extend_from_slice-in_default.ensures.items
    (more_like 1 s _ _ _ (λ k. codes_of_range_lem c.args.low c.args.end k (omega arith)) (range_more s a b (omega arith, omega arith) (omega arith, omega arith) (omega arith)))
