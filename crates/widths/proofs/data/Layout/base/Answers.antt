use Rattle.std.proofs.Common.{◌<◌, arith}
use Rattle.std.proofs.lemmas.Bool.Decides.{nat_tests}
use Rattle.widths.specs.Width.{widths_of}
use Rattle.widths.proofs.Rows.{base_room, base_apart}
use Rattle.widths.proofs.data.Layout.base.Goals as goal

pub returns : goal.returns
returns c =
    let l = c.args.self.now in
    let p = c.args.p in
    let inside : p < 65 = grind (arith, nat_tests) in
    let e = l.each p inside in
    let room = base_room (widths_of l) p in
    (inside, grind (arith, nat_tests), grind (arith, nat_tests), (λ q h. let a = base_apart (widths_of l) p q h in grind (arith, nat_tests)))
