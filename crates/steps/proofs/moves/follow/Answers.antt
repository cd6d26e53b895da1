use Rattle.std.proofs.Common.{◌≡◌, sym, refl, ap, ◌∙◌, arith}
use Rattle.std.proofs.lemmas.Bool.Decides.{nat_tests}
use Rattle.std.proofs.lemmas.Result.{err_from_is_err_and}
use Rattle.tables.specs.Masks.{within, next, cross}
use Rattle.tables.specs.Tables.{links_of}
use Rattle.steps.proofs.Gathers.{gathered_ready}
use Rattle.steps.proofs.Follows.{by_within, by_next, by_cross, gathered_at, within_refused, next_refused, links_followed, no_link_followed}
use Rattle.steps.proofs.moves.follow.Goals as goal

pub returns-then-is_empty : goal.returns-then-is_empty
returns-then-is_empty g c =
    let t = c.args.table.now in
    let f = g.B.Bank.means.front c.args.bank.now in
    let none : c.links-links.result.mask ≡ 0 = (let h = c.is_empty.ensures in let y = c.if-is_empty.true in grind (arith, nat_tests)) in
    no_link_followed g.B.Bank.means t f c.args.p c.args.q (sym c.links-links.ensures ∙ none) c.args.bank.now

pub returns-in_err-carry_if : goal.returns-in_err-carry_if
returns-in_err-carry_if g c = λ ready.
    let m = g.B.Bank.means in
    let t = c.args.table.now in
    let p = c.args.p in
    let q = c.args.q in
    let f = m.front c.args.bank.now in
    let e₀ : c.has.result ≡ within (links_of t p q) = c.has.ensures.link ∙ ap within c.links-links.ensures in
    let h₀ = gathered_at m (by_within p q) _ _ f f _ _ _ e₀ refl (c.in_err-carry_if.ensures ready) in
    let x = err_from_is_err_and c.from_residual.result c.from_residual.ensures.1 in
    rw (x.1, x.2) (within_refused m t f p q g.met.B.Bank.facts _ _ _ ready.stands h₀)

pub returns-in_err-carry_if-2 : goal.returns-in_err-carry_if-2
returns-in_err-carry_if-2 g c = λ ready.
    let m = g.B.Bank.means in
    let t = c.args.table.now in
    let p = c.args.p in
    let q = c.args.q in
    let f = m.front c.args.bank.now in
    let e₀ : c.has.result ≡ within (links_of t p q) = c.has.ensures.link ∙ ap within c.links-links.ensures in
    let e₁ : c.has-2.result ≡ next (links_of t p q) = c.has-2.ensures.link ∙ ap next c.links-links.ensures in
    let h₀ = gathered_at m (by_within p q) _ _ f f _ _ _ e₀ refl (c.in_ok-carry_if.ensures ready) in
    let r₁ = gathered_ready m _ _ _ h₀ in
    let h₁ = gathered_at m (by_next p q) _ _ _ f _ _ _ e₁ h₀.front_stays (c.in_err-carry_if-2.ensures r₁) in
    let x = err_from_is_err_and c.from_residual-in_err-carry_if-2.result c.from_residual-in_err-carry_if-2.ensures.1 in
    rw (x.1, x.2) (next_refused m t f p q g.met.B.Bank.facts _ _ _ _ ready.stands h₀ h₁)

pub returns : goal.returns
returns g c = λ ready.
    let m = g.B.Bank.means in
    let t = c.args.table.now in
    let p = c.args.p in
    let q = c.args.q in
    let f = m.front c.args.bank.now in
    let e₀ : c.has.result ≡ within (links_of t p q) = c.has.ensures.link ∙ ap within c.links-links.ensures in
    let e₁ : c.has-2.result ≡ next (links_of t p q) = c.has-2.ensures.link ∙ ap next c.links-links.ensures in
    let e₂ : c.has-3.result ≡ cross (links_of t p q) = c.has-3.ensures.link ∙ ap cross c.links-links.ensures in
    let h₀ = gathered_at m (by_within p q) _ _ f f _ _ _ e₀ refl (c.in_ok-carry_if.ensures ready) in
    let r₁ = gathered_ready m _ _ _ h₀ in
    let h₁ = gathered_at m (by_next p q) _ _ _ f _ _ _ e₁ h₀.front_stays (c.in_ok-carry_if-2.ensures r₁) in
    let r₂ = gathered_ready m _ _ _ h₁ in
    let h₂ = gathered_at m (by_cross t p q) _ _ _ f _ _ _ e₂ (h₁.front_stays ∙ h₀.front_stays) (c.cross_if.ensures r₂) in
    links_followed m t f p q _ _ _ _ _ h₀ h₁ h₂
