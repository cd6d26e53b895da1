-- The set of a tile with both halves, one half or no half written.
use Rattle.std.proofs.Common.{◌<◌, ◌∙◌}
use mathlib.Core.Path.{fun_ext}
use Rattle.alphabets.specs.Colours.{letter_of}
use Rattle.grammar.proofs.Spelling.{any_tile, one_colour, one_face, one_tile, colour_lem}
use Rattle.grammar.proofs.units.tile_codes.Goals as goal

pub returns-in-None-None : goal.returns-in-None-None
returns-in-None-None c = rw (c.in-None-None.is-0, c.in-None-None.is-1) (fun_ext (λ k. c.below.ensures k ∙ any_tile k))

pub returns-in-Some-None : goal.returns-in-Some-None
returns-in-Some-None c =
    let l = colour_lem c.in-Some-None.colour in
    rw (c.in-Some-None.is-0, c.in-Some-None.is-1) (fun_ext (λ k. c.colour_codes.ensures k ∙ one_colour (letter_of c.in-Some-None.colour) _ k l.0 l.1 l.2))

pub returns-in-None-Some : goal.returns-in-None-Some
returns-in-None-Some c =
    let h : c.in-None-Some.face < 10 = rw c.in-None-Some.is-1 at c.requires in
    rw (c.in-None-Some.is-0, c.in-None-Some.is-1) (fun_ext (λ k.
    let a₀ = c.only.ensures k in
    let a₁ = c.only-in-None-Some.ensures k in
    let a₂ = c.only-in-None-Some-2.ensures k in
    let a₃ = c.only-in-None-Some-3.ensures k in
    let b₁ = c.union.ensures k in
    let b₂ = c.union-in-None-Some.ensures k in
    let b₃ = c.union-in-None-Some-2.ensures k in
    let y = one_face c.in-None-Some.face k h in
    cc))

pub returns-in-Some-Some : goal.returns-in-Some-Some
returns-in-Some-Some c =
    let n = c.number in
    let l = colour_lem c.in-Some-Some.colour in
    let h : c.in-Some-Some.face < 10 = rw c.in-Some-Some.is-1 at c.requires in
    rw (c.in-Some-Some.is-0, c.in-Some-Some.is-1) (fun_ext (λ k. c.only-in-Some-Some.ensures k ∙ one_tile (letter_of c.in-Some-Some.colour) c.in-Some-Some.face n.result k l.0 (n.ensures.0 ∙ l.1) n.ensures.1 h))
