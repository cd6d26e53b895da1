-- A letter, a range or a tile, and the rest of the body; or where that stops.
use Rattle.std.proofs.Common.{◌≡◌, ◌+◌, None, sym, refl, ◌∙◌, subst, arith, true-eqb, false-eqb}
use mathlib.Core.Path.{fun_ext}
use Rattle.grammar.specs.Codes.{no_codes}
use Rattle.grammar.specs.Grammar.{byte, Body, nothing, one, range, tiles}
use Rattle.grammar.specs.Nodes.{spelled}
use Rattle.grammar.specs.Reading.{AfterBody}
use Rattle.grammar.proofs.Exits.{exit, refused, was_read, not_read}
use Rattle.grammar.proofs.Texts.{within}
use Rattle.grammar.proofs.Spelling.{pair_is}
use Rattle.grammar.proofs.ClassStops.{body_stops_first, body_stops_after_letter, body_stops_at_high, body_stops_after_range, body_stops_in_tile, body_stops_after_tile}
use Rattle.grammar.proofs.reader.Reader.+body_letters_tiles.Goals as goal
use Rattle.grammar.proofs.reader.Reader.+body_letters_tiles.Goals.{letters-in_default-via-then-to-lt97, letters-in_default-via-else-to-lt97+else-to-lt123}

pub body-returns-in_err-first : goal.body-returns-in_err-first
body-returns-in_err-first t c =
    let f = not_read _ _ c.byte.result _ c.in_err-first.field-0.0 c.byte.ensures c.in_err-first.ensures.value in
    refused (Body c.args.self.now.unit) AfterBody c.args.self.now.text.now c.args.at spelled c.args.at c.from_residual.result _ c.from_residual.ensures.1
    (rw f.0 (omega arith, body_stops_first c.requires (λ x. grind (arith, f.1, x))))

pub body-returns-in-93 : goal.body-returns-in-93
body-returns-in-93 t c =
    let s = c.args.self.now.text.now in
    let i = c.args.at in
    let u = c.args.self.now.unit in
    let d : Body u s i i (no_codes, None) = nothing in
    record {
      ahead = omega arith;
      inside = c.requires;
      derives = subst (λ x. Body u s i i x) (pair_is (fun_ext (λ k. sym (c.empty.ensures k))) refl) d;
      after = (was_read _ _ c.byte.result _ c.byte.ensures c.in_ok-first.ensures.ok_part).1 ∙ grind arith;
    }

pub body-returns-in_default-2 : goal.body-returns-in_default-2
body-returns-in_default-2 t c =
    let f = was_read _ _ c.byte.result _ c.byte.ensures c.in_ok-first.ensures.ok_part in
    (f.0, body_stops_first c.requires (λ x. grind (arith, f.1, x)))

pub body-returns-in_default-2-2 : goal.body-returns-in_default-2-2
body-returns-in_default-2-2 t c =
    let f = was_read _ _ c.byte.result _ c.byte.ensures c.in_ok-first.ensures.ok_part in
    (f.0, body_stops_first c.requires (λ x. grind (arith, f.1, x)))

pub letters-returns-in_err-rest : goal.letters-returns-in_err-rest
letters-returns-in_err-rest t c =
    let s = c.args.self.now.text.now in
    let i = c.args.at in
    let x = false-eqb (byte s (i + 1)) 45 (sym c.if-not-next_is.true ∙ c.next_is.ensures) in
    exit spelled i (body_stops_after_letter {s = s} c.requires.0 (rw c.requires.1 c.requires.2) x) c.from_residual.result c.in_err-rest.field-0.0 c.from_residual.ensures.1 c.in_err-rest.ensures

pub letters-returns-then-not-next_is : goal.letters-returns-then-not-next_is
letters-returns-then-not-next_is t c =
    let h = c.in_ok-rest.ensures in
    record {
      ahead = omega (arith, h.ahead);
      inside = h.inside;
      derives = rw (c.after.ensures, c.letter_codes.ensures) (one c.requires.0 c.requires.1 c.requires.2 h.derives);
      after = h.after;
    }

pub letters-returns-in_err-to : goal.letters-returns-in_err-to
letters-returns-in_err-to t c =
    let s = c.args.self.now.text.now in
    let i = c.args.at in
    let x : byte s (i + 1) ≡ 45 = true-eqb _ _ (sym c.if-not-next_is.false ∙ c.next_is.ensures) in
    let l = within s (i + 1) (omega arith) in
    let f = not_read _ _ c.byte.result _ c.in_err-to.field-0.0 c.byte.ensures c.in_err-to.ensures.value in
    refused (Body c.args.self.now.unit) AfterBody s i spelled i c.from_residual-in_err-to.result _ c.from_residual-in_err-to.ensures.1
    (rw f.0 (omega arith, body_stops_at_high c.requires.0 (rw c.requires.1 c.requires.2) x (omega arith) (λ y. omega (arith, f, y.0, y.1))))

pub letters-returns-in_err-rest-in-97-to-122 : goal.letters-returns-in_err-rest-in-97-to-122
letters-returns-in_err-rest-in-97-to-122 t c =
    let s = c.args.self.now.text.now in
    let i = c.args.at in
    let x : byte s (i + 1) ≡ 45 = true-eqb _ _ (sym c.if-not-next_is.false ∙ c.next_is.ensures) in
    let r = was_read _ _ c.byte.result _ c.byte.ensures c.in_ok-to.ensures.ok_part in
    let f = r.1 in
    exit spelled i (body_stops_after_range {s = s} c.requires.0 (rw c.requires.1 c.requires.2) x (omega arith, omega arith)) c.from_residual-in_err-rest-in-97-to-122.result c.in_err-rest-in-97-to-122.field-0.0 c.from_residual-in_err-rest-in-97-to-122.ensures.1 c.in_err-rest-in-97-to-122.ensures

pub letters-returns-in_ok-rest-in-97-to-122 : goal.letters-returns-in_ok-rest-in-97-to-122
letters-returns-in_ok-rest-in-97-to-122 t c =
    let s = c.args.self.now.text.now in
    let i = c.args.at in
    let h = c.in_ok-rest-in-97-to-122.ensures in
    let r = was_read _ _ c.byte.result _ c.byte.ensures c.in_ok-to.ensures.ok_part in
    let x : byte s (i + 1) ≡ 45 = true-eqb _ _ (sym c.if-not-next_is.false ∙ c.next_is.ensures) in
    record {
      ahead = omega (arith, h.ahead);
      inside = h.inside;
      derives = rw c.after_range.ensures (range c.requires.0 c.requires.1 c.requires.2 x r.1 (omega arith, omega arith) h.derives);
      after = h.after;
    }

pub letters-returns-in_default : goal.letters-returns-in_default
letters-returns-in_default t c =
    let s = c.args.self.now.text.now in
    let i = c.args.at in
    let r = was_read _ _ c.byte.result _ c.byte.ensures c.in_ok-to.ensures.ok_part in
    let f = r.1 in
    let x : byte s (i + 1) ≡ 45 = true-eqb _ _ (sym c.if-not-next_is.false ∙ c.next_is.ensures) in
    (r.0, body_stops_at_high c.requires.0 (rw c.requires.1 c.requires.2) x (omega arith) (λ y. elim c.in_default.branch [ letters-in_default-via-then-to-lt97 w ↦ omega (arith, f, y.0, y.1, w) | letters-in_default-via-else-to-lt97+else-to-lt123 w ↦ omega (arith, f, y.0, y.1, w) ]))

pub tiles-returns-in_err-first : goal.tiles-returns-in_err-first
tiles-returns-in_err-first t c =
    exit spelled c.args.at (body_stops_in_tile {s = c.args.self.now.text.now} c.requires.0 c.requires.2) c.from_residual.result c.in_err-first.field-0.0 c.from_residual.ensures.1 c.in_err-first.ensures

pub tiles-returns-in_err-rest : goal.tiles-returns-in_err-rest
tiles-returns-in_err-rest t c =
    exit spelled c.args.at (body_stops_after_tile {s = c.args.self.now.text.now} c.requires.0 c.requires.2 c.in_ok-first.ensures) c.from_residual-in_err-rest.result c.in_err-rest.field-0.0 c.from_residual-in_err-rest.ensures.1 c.in_err-rest.ensures

pub tiles-returns : goal.tiles-returns
tiles-returns t c =
    let a = c.in_ok-first.ensures in
    let h = c.in_ok-rest.ensures in
    record {
      ahead = omega (arith, a.ahead, h.ahead);
      inside = h.inside;
      derives = rw c.after.ensures (tiles c.requires.0 a.derives h.derives);
      after = h.after;
    }
