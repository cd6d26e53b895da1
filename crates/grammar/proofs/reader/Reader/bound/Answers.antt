-- One number or two between brackets, or where that stops.
use Rattle.std.proofs.Common.{◌≡◌, ℕ, ◌+◌, inl, inr, arith, true-eqb, false-eqb}
use Rattle.grammar.specs.Grammar.{byte, exactly, between}
use Rattle.grammar.specs.Reading.{AfterNumber}
use Rattle.grammar.proofs.Exits.{exit}
use Rattle.grammar.proofs.Texts.{within}
use Rattle.grammar.proofs.BoundStops.{bound_stops_in_low, bound_stops_in_high, bound_stops_after_high}
use Rattle.grammar.proofs.reader.Reader.bound.Goals as goal

-- what follows a number and is no `}` is a `,`
comma : {c : ℕ} → AfterNumber c → (c ≡ 125 → ⊥) → c ≡ 44
comma a x = elim a [ inl e ↦ e | inr e ↦ absurd (x e) ]

pub returns-in_err-low : goal.returns-in_err-low
returns-in_err-low c =
    exit (λ x. x) (c.args.at + 1) (bound_stops_in_low {s = c.args.self.now.text.now} c.requires.1) c.from_residual.result c.in_err-low.field-0.0 c.from_residual.ensures.1 c.in_err-low.ensures

pub returns-then-next_is : goal.returns-then-next_is
returns-then-next_is c =
    let s = c.args.self.now.text.now in
    let a = c.in_ok-low.ensures in
    let x = true-eqb (byte s c.in_ok-low.p) 125 c.if-next_is.ensures in
    let l = within s c.in_ok-low.p (omega arith) in
    record {
      ahead = omega arith;
      inside = omega arith;
      derives = exactly c.requires.1 a.derives x;
      after = tt;
    }

pub returns-in_err-high : goal.returns-in_err-high
returns-in_err-high c =
    let s = c.args.self.now.text.now in
    let a = c.in_ok-low.ensures in
    let x = comma a.after (false-eqb (byte s c.in_ok-low.p) 125 c.if-next_is.ensures) in
    exit (λ y. y) (c.args.at + 1) (bound_stops_in_high {s = s} c.requires.1 a x) c.from_residual-in_err-high.result c.in_err-high.field-0.0 c.from_residual-in_err-high.ensures.1 c.in_err-high.ensures

pub returns-then-next_is-2 : goal.returns-then-next_is-2
returns-then-next_is-2 c =
    let s = c.args.self.now.text.now in
    let a = c.in_ok-low.ensures in
    let b = c.in_ok-high.ensures in
    let x = comma a.after (false-eqb (byte s c.in_ok-low.p) 125 c.if-next_is.ensures) in
    let y = true-eqb (byte s c.in_ok-high.q) 125 c.if-next_is-2.ensures in
    let l = within s c.in_ok-high.q (omega arith) in
    record {
      ahead = omega arith;
      inside = omega arith;
      derives = between c.requires.1 a.derives x b.derives y;
      after = tt;
    }

pub returns-else-next_is-2 : goal.returns-else-next_is-2
returns-else-next_is-2 c =
    let s = c.args.self.now.text.now in
    let a = c.in_ok-low.ensures in
    let b = c.in_ok-high.ensures in
    let x = comma a.after (false-eqb (byte s c.in_ok-low.p) 125 c.if-next_is.ensures) in
    let y = false-eqb (byte s c.in_ok-high.q) 125 c.if-next_is-2.ensures in
    let z = comma b.after y in
    let l = within s c.in_ok-high.q (omega arith) in
    (l, bound_stops_after_high c.requires.1 a x b y)
