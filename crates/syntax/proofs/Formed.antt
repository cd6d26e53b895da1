-- The tree of a pattern with right bounds and no nested repeat is well formed, and none of its widths is above 1,000.
use Rattle.std.proofs.Common.{ℕ, ◌+◌, ◌≤◌, ◌&&◌, ltb, leb, refl, inl, inr, arith}
use Rattle.std.proofs.lemmas.Bool.{cases_lt, cond_both}
use Rattle.automata.specs.Language.{Flat, WellFormed}
use Rattle.automata.specs.Places.{size, width}
use Rattle.grammar.specs.Ast.{Ast, empty, leaf, class, cat, alt, repeat, star, plus, opt, counted}
use Rattle.checks.specs.Faults.{BoundsAt, CountedAt, NestedAt, Nowhere}
use Rattle.syntax.specs.TextLanguage.{tree_of}

flat : (t : Ast) → Nowhere (CountedAt t) → Flat (tree_of t)
flat empty h = tt
flat (leaf i m) h = tt
flat (class i m r) h = tt
flat (cat a b) h = (flat a (λ p x. h p (inl x)), flat b (λ p x. h p (inr x)))
flat (alt a b) h = (flat a (λ p x. h p (inl x)), flat b (λ p x. h p (inr x)))
flat (repeat star a) h = flat a h
flat (repeat plus a) h = flat a h
flat (repeat opt a) h = flat a h
flat (repeat (counted at low high) a) h = absurd (h at (inr refl))

pub well_formed : (t : Ast) → Nowhere (BoundsAt t) → Nowhere (NestedAt t) → WellFormed (tree_of t)
well_formed empty g h = tt
well_formed (leaf i m) g h = tt
well_formed (class i m r) g h = tt
well_formed (cat a b) g h = (well_formed a (λ p x. g p (inl x)) (λ p x. h p (inl x)), well_formed b (λ p x. g p (inr x)) (λ p x. h p (inr x)))
well_formed (alt a b) g h = (well_formed a (λ p x. g p (inl x)) (λ p x. h p (inl x)), well_formed b (λ p x. g p (inr x)) (λ p x. h p (inr x)))
well_formed (repeat star a) g h = well_formed a g h
well_formed (repeat plus a) g h = well_formed a g h
well_formed (repeat opt a) g h = well_formed a g h
well_formed (repeat (counted at low high) a) g h =
    let x : low ≤ high = elim (cases_lt high low) [ inl l ↦ absurd (g at (inr (refl, inr (inr l)))) | inr l ↦ l ] in
    let y : 1 ≤ high = elim (cases_lt 0 high) [ inl l ↦ omega arith | inr l ↦ absurd (g at (inr (refl, inl (omega arith)))) ] in
    (x, y, flat a h)

pub width_below : (t : Ast) → Nowhere (BoundsAt t) → (o p : ℕ) → width (tree_of t) o p ≤ 1000
width_below empty g o p = omega arith
width_below (leaf i m) g o p = omega arith
width_below (class i m r) g o p = omega arith
width_below (cat a b) g o p = cond_both (leb p (o + size (tree_of a))) _ _ (λ v. v ≤ 1000) (λ e. width_below a (λ q x. g q (inl x)) o p) (λ e. width_below b (λ q x. g q (inr x)) (o + size (tree_of a)) p)
width_below (alt a b) g o p = cond_both (leb p (o + size (tree_of a))) _ _ (λ v. v ≤ 1000) (λ e. width_below a (λ q x. g q (inl x)) o p) (λ e. width_below b (λ q x. g q (inr x)) (o + size (tree_of a)) p)
width_below (repeat star a) g o p = width_below a g o p
width_below (repeat plus a) g o p = width_below a g o p
width_below (repeat opt a) g o p = width_below a g o p
width_below (repeat (counted at low high) a) g o p =
    let x : high ≤ 1000 = elim (cases_lt 1000 high) [ inl l ↦ absurd (g at (inr (refl, inr (inl l)))) | inr l ↦ l ] in
    cond_both (ltb o p && leb p (o + size (tree_of a))) high 1 (λ v. v ≤ 1000) (λ e. x) (λ e. omega arith)
