use Rattle.std.proofs.Common.{◌≡◌, ℕ, ◌+◌, ◌*◌, ◌<◌, ◌&&◌, ◌||◌, zero, suc, ltb, leb, [], ◌∷◌, get_or, vec_items, refl, ap, ◌∙◌, subst, arith}
use Rattle.bits.specs.Members.{member}
use Rattle.alphabets.specs.Colours.{number_of}
use Rattle.alphabets.specs.declared.colours.Colour.TheVariants.{Red, Green, Blue, Yellow}
use Rattle.class_bodies.specs.ClassBody.{SpellsCodes}
use Rattle.class_bodies.proofs.UnitCodes.{codes_like, spells_none, none_below, colours_codes}
use Rattle.class_bodies.proofs.units.tiles_body.Goals as goal

-- The colours stand in the order of their numbers.
in_order : (i : ℕ) → i < 4 → number_of (get_or (Red ∷ Green ∷ Blue ∷ Yellow ∷ []) i Red) ≡ i
in_order zero h = refl
in_order (suc zero) h = refl
in_order (suc (suc zero)) h = refl
in_order (suc (suc (suc zero))) h = refl
in_order (suc (suc (suc (suc i)))) h = absurd (omega arith)

pub loop-colour-init : goal.loop-colour-init
loop-colour-init c = spells_none 2 _ _ c.new-body.ensures.items (λ k. none_below (member c.args.codes k) k)

pub loop-colour-preserved : goal.loop-colour-preserved
loop-colour-preserved c =
    let codes = c.args.codes in
    let i = c.loop-colour.colour-index in
    let e = in_order i c.loop-colour-test.true in
    codes_like 2 _ _ _
    (λ k. ap (λ n. (member codes k && ltb k (10 * i)) || (member codes k && (leb (10 * n) k && ltb k (10 * n + 10)))) e ∙ colours_codes (member codes k) k i)
    (c.in_ok-push_colour.ensures _ c.loop-colour.invariant)

pub returns : goal.returns
returns c =
    let e : c.loop-colour.colour-index ≡ 4 = omega arith in
    subst (λ (n : ℕ). SpellsCodes 2 (vec_items c.loop-colour.body) (λ k. member c.args.codes k && ltb k (10 * n))) e c.loop-colour.invariant
