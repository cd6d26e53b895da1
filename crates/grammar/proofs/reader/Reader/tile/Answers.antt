-- A colour and a face, or where that stops.
use Rattle.std.proofs.Common.{◌+◌, subst, sym, arith}
use Rattle.bits.specs.Members.{member}
use Rattle.grammar.specs.Codes.{ColourUnit, FaceUnit}
use Rattle.grammar.specs.Grammar.{OneUnit, tile}
use Rattle.grammar.specs.Reading.{Anything}
use Rattle.grammar.proofs.Exits.{refused}
use Rattle.grammar.proofs.Spelling.{colour_unit, face_unit}
use Rattle.grammar.proofs.Texts.{within}
use Rattle.grammar.proofs.UnitStops.{colour_lacks, face_lacks}
use Rattle.grammar.proofs.reader.Reader.tile.Goals as goal

pub returns-in_err-colour : goal.returns-in_err-colour
returns-in_err-colour c =
    let e = c.in_err-colour.field-0.0 in
    refused (OneUnit c.args.self.now.unit) Anything c.args.self.now.text.now c.args.at member (c.args.at + 1) c.from_residual.result e c.from_residual.ensures.1 (colour_lacks c.args.self.now.text.now c.args.at e c.requires.0 c.requires.1 c.in_err-colour.ensures)

pub returns-in_err-face : goal.returns-in_err-face
returns-in_err-face c =
    let e = c.in_err-face.field-0.0 in
    let x = subst ColourUnit (sym c.in_ok-colour.ensures) (colour_unit c.in_ok-colour.colour) in
    refused (OneUnit c.args.self.now.unit) Anything c.args.self.now.text.now c.args.at member (c.args.at + 1) c.from_residual-in_err-face.result e c.from_residual-in_err-face.ensures.1 (face_lacks c.args.self.now.text.now c.args.at e c.requires.0 x c.requires.1 c.in_err-face.ensures)

pub returns : goal.returns
returns c =
    let f = c.in_ok-face in
    let y = face_unit f.face f.ensures.1 in
    let z = subst FaceUnit (sym f.ensures.0) y in
    let l = within c.args.self.now.text.now (c.args.at + 1) (grind (arith, z)) in
    record {
      ahead = omega arith;
      inside = omega (arith, l);
      derives = rw c.tile_codes.ensures (tile c.requires.0 c.in_ok-colour.ensures (colour_unit c.in_ok-colour.colour) f.ensures.0 y);
      after = tt;
    }
