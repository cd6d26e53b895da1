use Rattle.std.proofs.Common.{[], ◌∷◌, vec_items, Some}
use Rattle.grammar.specs.Codes.{codes_of_tile}
use Rattle.alphabets.specs.Colours.{letter_of}
use Rattle.grammar.proofs.Spelling.{colour_unit}
use Rattle.class_bodies.proofs.BodyEnds.{tile_more}
use Rattle.class_bodies.proofs.UnitCodes.{just_codes, more_like, more_made}
use Rattle.class_bodies.proofs.units.push_tile.Goals as goal

pub returns : goal.returns
returns c =
    let a = letter_of c.args.colour in
    let b = c.args.face in
    let s = vec_items c.args.body.now in
    more_made 2 c.extend_from_slice.result s (a ∷ b ∷ []) _ _ (rw c.letter.ensures at c.extend_from_slice.ensures.items)
    (more_like 2 s _ _ _ (just_codes (codes_of_tile a b)) (tile_more s a b (colour_unit (Some c.args.colour)) c.requires))
