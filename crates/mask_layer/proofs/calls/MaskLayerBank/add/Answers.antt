use Rattle.std.proofs.Common.{◌≡◌, true, sym, ◌∙◌}
use Rattle.banks.specs.Pairs.{only}
use Rattle.mask_layer.specs.Places.{narrow, placed}
use Rattle.mask_layer.proofs.Layers.{below_put, own_put, only_away, one_within, one_wide, narrow_place, one_of, with_of}
use Rattle.mask_layer.proofs.calls.MaskLayerBank.add.Goals as goal

pub returns-then-not-is_narrow : goal.returns-then-not-is_narrow
returns-then-not-is_narrow g c = λ s.
    let w = c.args.self.now in
    below_put g.B.Bank.means g.met.B.Bank.facts w s c.add.new.self (only c.args.p c.args.i)
    (only_away w.plan c.args.p c.args.i (sym c.is_narrow.ensures ∙ c.if-not-is_narrow.true)) c.add.result (c.add.ensures s.below)

pub returns-then-i-eq1 : goal.returns-then-i-eq1
returns-then-i-eq1 g c = λ s.
    let m = g.B.Bank.means in
    let w = c.args.self.now in
    let p = c.args.p in
    let n : narrow w.plan p ≡ true = sym c.is_narrow.ensures ∙ c.if-not-is_narrow.false in
    own_put m g.met.B.Bank.facts w s (only p c.args.i) p c.with-self.result n
    (λ a j. one_within (m.widths w.below) p c.args.i a j (one_wide m g.met.B.Bank.facts w s p n) ∙ one_of a j p c.args.i c.if-i-eq1.true)
    (λ a. c.with-self.ensures a ∙ with_of a p (placed w.back a) (narrow_place w.plan p n))
