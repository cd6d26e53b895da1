use Rattle.std.proofs.Common.{◌≡◌, ℕ, ◌+◌, ◌-◌, Bool, true, false, ◌&&◌, leb, sym, refl, ap, ◌∙◌, subst, arith}
use Rattle.std.proofs.lemmas.Bool.{both_ways}
use Rattle.banks.specs.Pairs.{only}
use Rattle.banks.specs.Meaning.{Put}
use Rattle.banks.specs.Raises.{raise_by}
use Rattle.banks.specs.declared.Raise.{Raise}
use Rattle.banks.specs.declared.Raise.TheVariants.{Nothing, One}
use Rattle.mask_layer.specs.Places.{narrow, placed}
use Rattle.mask_layer.specs.Means.{masked}
use Rattle.mask_layer.proofs.Layers.{carry_own, carry_none, carry_below, carry_one, carry_empty, look_one, no_zero, with_of, narrow_place}
use Rattle.mask_layer.proofs.calls.MaskLayerBank.carry.Goals as goal
use Rattle.mask_layer.proofs.calls.MaskLayerBank.carry.Goals.{in-Nothing, in_default, else-matches-via-then-matches+else-look, else-matches-via-else-matches}

pub returns-then-look : goal.returns-then-look
returns-then-look g c = λ s.
    let m = g.B.Bank.means in
    let w = c.args.self.now in
    let q = c.args.q in
    let nq : narrow w.plan q ≡ true = sym c.is_narrow.ensures ∙ c.if-is_narrow.true in
    carry_own m g.met.B.Bank.facts w s c.args.p q (raise_by c.args.raise) c.with-self.result nq
    (elim c.match-matches.branch [
      | in-Nothing v ↦ ap raise_by v.in-Nothing.is
      | in_default v ↦ absurd (both_ways _ v.matches-is c.if-matches.true)
    ])
    (look_one ((masked m).front w) c.args.p 1 c.look.result (c.look.ensures s) ∙ c.if-look.true)
    (λ a. c.with-self.ensures a ∙ with_of a q (placed w.back a) (narrow_place w.plan q nq))

-- a raise is by 0, and then what stands at count 1 is raised; or by 1, and then what stands at count 0
raised : (F : ℕ → Bool) (raise : Raise) → F 0 ≡ false → (raise_by raise ≡ 0 → F 1 ≡ false) → (leb (raise_by raise) 1 && F (1 - raise_by raise)) ≡ false
raised F Nothing z one = one refl
raised F One z one = z

pub returns-else-matches : goal.returns-else-matches
returns-else-matches g c = λ s.
    let m = g.B.Bank.means in
    let w = c.args.self.now in
    carry_none m g.met.B.Bank.facts w s c.args.p c.args.q (raise_by c.args.raise) (sym c.is_narrow.ensures ∙ c.if-is_narrow.true)
    (raised ((masked m).front w c.args.p) c.args.raise (no_zero m g.met.B.Bank.facts w s c.args.p)
    (λ e. elim c.else-matches.branch [
      | else-matches-via-then-matches+else-look v ↦ look_one ((masked m).front w) c.args.p 1 v.look.result (v.look.ensures s) ∙ v.if-look.false
      | else-matches-via-else-matches v ↦ elim c.match-matches.branch [
        | in-Nothing u ↦ absurd (both_ways _ v.if-matches.false u.matches-is)
        | in_default u ↦ let one = ap raise_by u.in_default.is in let no_way : ⊥ = omega arith in absurd no_way
      ]
    ]))

pub returns-then-not-is_narrow : goal.returns-then-not-is_narrow
returns-then-not-is_narrow g c = λ s.
    let w = c.args.self.now in
    carry_below g.B.Bank.means g.met.B.Bank.facts w s c.args.p c.args.q (raise_by c.args.raise) c.carry.result c.carry.new.self
    (sym c.is_narrow-else-is_narrow.ensures ∙ c.if-not-is_narrow.true) (sym c.is_narrow.ensures ∙ c.if-is_narrow.false) (c.carry.ensures s.below)

pub returns-then-has : goal.returns-then-has
returns-then-has g c = λ s.
    let m = g.B.Bank.means in
    let w = c.args.self.now in
    carry_one m g.met.B.Bank.facts w s c.args.p c.args.q (raise_by c.args.raise) c.add.result c.add.new.self
    (sym c.is_narrow-else-is_narrow.ensures ∙ c.if-not-is_narrow.false) (sym c.is_narrow.ensures ∙ c.if-is_narrow.false)
    (sym c.has.ensures ∙ c.if-has.true)
    (subst (λ (n : ℕ). Put m (only c.args.q (1 + n)) w.below c.add.result c.add.new.self) c.from.ensures (c.add.ensures s.below))

pub returns-else-has : goal.returns-else-has
returns-else-has g c = λ s.
    carry_empty g.B.Bank.means g.met.B.Bank.facts c.args.self.now s c.args.p c.args.q (raise_by c.args.raise)
    (sym c.is_narrow-else-is_narrow.ensures ∙ c.if-not-is_narrow.false) (sym c.has.ensures ∙ c.if-has.false)
