-- The step of a set within the widths is what the moves of a bank give.
use Rattle.std.proofs.Common.{ℕ, ◌↔◌, inl, inr, arith}
use mathlib.Core.Logic.Iff
use Rattle.automata.specs.Language.{Tree, WellFormed}
use Rattle.automata.specs.Places.{Holds}
use Rattle.automata.specs.Links.{Link}
use Rattle.automata.specs.Step.{Step, Stands}
use Rattle.automata.specs.Moves.{Moved}
use Rattle.automata.specs.Theorems.{FrontByMoves}
use Rattle.automata.proofs.Fronts.{front_by_step}
use Rattle.automata.proofs.Widths.{AllInside, bounds_before, link_inside, stays_width, front_inside}

module _ (e : Tree) (F : ℕ → ℕ → Type 0) (h : WellFormed e) (all : AllInside e F) where
  link_moved : (p i q j : ℕ) → F p i → Link e p i q j → Moved e F p q j
  link_moved p i q j f (inl (inl (k, is))) =
      let r = link_inside e p i q j h (all p i f) (inl (inl (k, is))) in
      inl (k, (i, f, omega arith, r.1, r.2))
  link_moved p i q j f (inl (inr (inl (k, l, is)))) =
      let r = link_inside e p i q j h (all p i f) (inl (inr (inl (k, l, is)))) in
      inr (inl (k, (i, f, omega arith, r.1, r.2)))
  link_moved p i q j f (inl (inr (inr (k, l, is)))) = inr (inr (inl k, (i, f, l, (all p i f).2), is))
  link_moved p i q j f (inr (z, k, l, is)) =
      inr (inr (inr (z, k), (i, f, omega (arith, bounds_before e 0 p (omega arith)), (all p i f).2), is))

  moved_link : (p q j : ℕ) → Moved e F p q j → (i : ℕ) × F p i × Link e p i q j
  moved_link p q j (inl (k, (i, f, is, a, b))) = (i, f, inl (inl (k, omega arith)))
  moved_link p q j (inr (inl (k, (i, f, is, a, b)))) =
      (i, f, inl (inr (inl (k, omega (arith, stays_width e 0 p q (inr k)), omega arith))))
  moved_link p q j (inr (inr (inl k, (i, f, l, m), is))) = (i, f, inl (inr (inr (k, l, is))))
  moved_link p q j (inr (inr (inr (z, k), (i, f, l, m), is))) = (i, f, inr (z, k, (all p i f).1, is))

  pub step_by_moves : (s q j : ℕ) → (Step e s F q j ↔ (Holds e 0 q s × ((p : ℕ) × Moved e F p q j)))
  step_by_moves s q j = (
    (λ k. let (x, (p, i, f, l)) = k in (x, (p, link_moved p i q j f l))),
    (λ k. let (x, (p, m)) = k in let (i, f, l) = moved_link p q j m in (x, (p, i, f, l))),
  )

pub front_by_moves : FrontByMoves
front_by_moves e w s q j h =
    Iff.trans (front_by_step e w s q j) (step_by_moves e (Stands e w) h (λ p i. front_inside e w p i h) s q j)
