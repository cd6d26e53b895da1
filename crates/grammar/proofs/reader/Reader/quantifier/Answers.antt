-- Each quantifier by its first byte.
use Rattle.std.proofs.Common.{◌≡◌, ◌+◌, ◌∙◌, arith}
use Rattle.grammar.specs.Grammar.{byte, any, some, maybe, with_bound}
use Rattle.grammar.specs.Nodes.{repetition_of}
use Rattle.grammar.proofs.Exits.{exit}
use Rattle.grammar.proofs.BoundStops.{quantifier_stops_in_bound}
use Rattle.grammar.proofs.reader.Reader.quantifier.Goals as goal

pub returns-in_err-bounds-in_default : goal.returns-in_err-bounds-in_default
returns-in_err-bounds-in_default c =
    let x : byte c.args.self.now.text.now c.args.at ≡ 123 = grind arith in
    exit repetition_of (c.args.at + 1) (quantifier_stops_in_bound x) c.from_residual.result c.in_err-bounds-in_default.field-0.0 c.from_residual.ensures.1 c.in_err-bounds-in_default.ensures

pub returns-in_ok-bounds-in_default : goal.returns-in_ok-bounds-in_default
returns-in_ok-bounds-in_default c =
    let h = c.in_ok-bounds-in_default.ensures in
    record { ahead = h.ahead; inside = h.inside; derives = with_bound h.derives; after = tt }

pub returns-in-Some-eq42 : goal.returns-in-Some-eq42
returns-in-Some-eq42 c =
    let h = c.in-Some-eq42 in
    record { ahead = omega arith; inside = omega (arith, h.ensures.0); derives = any (h.ensures.1 ∙ h.field-0-test); after = tt }

pub returns-in-Some-eq43 : goal.returns-in-Some-eq43
returns-in-Some-eq43 c =
    let h = c.in-Some-eq43 in
    record { ahead = omega arith; inside = omega (arith, h.ensures.0); derives = some (h.ensures.1 ∙ h.field-0-test); after = tt }

pub returns-in-Some-eq63 : goal.returns-in-Some-eq63
returns-in-Some-eq63 c =
    let h = c.in-Some-eq63 in
    record { ahead = omega arith; inside = omega (arith, h.ensures.0); derives = maybe (h.ensures.1 ∙ h.field-0-test); after = tt }
