-- A digit, more digits, and then a `,` or a `}`, or where that stops.
use Rattle.std.proofs.Common.{◌≡◌, ◌-◌, arith}
use Rattle.grammar.specs.Grammar.{byte, number}
use Rattle.grammar.proofs.BoundStops.{number_stops_first, number_stops_after_digits}
use Rattle.grammar.proofs.reader.Reader.number.Goals as goal

pub returns-in-None : goal.returns-in-None
returns-in-None c = (omega arith, number_stops_first c.requires (λ d. omega (arith, c.in-None.ensures.1, d.0, d.1)))

pub returns-in-Some : goal.returns-in-Some
returns-in-Some c = (c.in-Some.ensures.0, number_stops_first c.requires (λ d. omega (arith, c.in-Some.ensures.1, d.0, d.1)))

pub returns-in-Some-2 : goal.returns-in-Some-2
returns-in-Some-2 c = (c.in-Some.ensures.0, number_stops_first c.requires (λ d. omega (arith, c.in-Some.ensures.1, d.0, d.1)))

pub returns-in-None-byte : goal.returns-in-None-byte
returns-in-None-byte c =
    let h = c.digits-n.ensures in
    let f = c.in-None-byte.ensures.1 in
    let a = c.in-Some-48-to-57.ensures.1 in
    let x : c.from.result ≡ byte c.args.self.now.text.now c.args.at - 48 = omega arith in
    (omega arith, number_stops_after_digits (omega arith, omega arith) (rw x at h.derives) h.inside.1 (λ b. grind (arith, f, b)) (λ g. absurd (omega (arith, f, g.0, g.1))))

pub returns-in-Some-eq44 : goal.returns-in-Some-eq44
returns-in-Some-eq44 c =
    let h = c.digits-n.ensures in
    record {
      ahead = h.inside.0;
      inside = h.inside.1;
      derives = number c.in-Some-48-to-57.ensures.1 (omega arith, omega arith) (rw c.from.ensures at h.derives);
      after = rw c.in-Some-eq44.ensures.1 c.in-Some-eq44.field-0-test;
    }

pub returns-in-Some-byte : goal.returns-in-Some-byte
returns-in-Some-byte c =
    let h = c.digits-n.ensures in
    let f = c.in-Some-byte.ensures.1 in
    let a = c.in-Some-48-to-57.ensures.1 in
    let x : c.from.result ≡ byte c.args.self.now.text.now c.args.at - 48 = omega arith in
    (c.in-Some-byte.ensures.0, number_stops_after_digits (omega arith, omega arith) (rw x at h.derives) h.inside.1 (λ b. grind (arith, f, b)) h.full)
