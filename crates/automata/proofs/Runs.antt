-- Runs: a part reads a row from place to place and can then be left. How runs are carried from a part to the whole and back.
use Rattle.std.proofs.Common.{◌≡◌, ℕ, ◌≤◌, T, List, [], ◌∷◌, ◌++◌, ap}
use Rattle.automata.specs.Language.{Tree}
use Rattle.automata.specs.Places.{nullable, First, Last, Holds, low}
use Rattle.automata.specs.Links.{Takes}
use Rattle.automata.proofs.Ranges.{Range, takes_range}

-- From (p, i) the row is read by links of the kind To, at places that Hold its symbols, up to a pair of which End holds.
abbrev pub Go : (ℕ → ℕ → ℕ → ℕ → Type 0) → (ℕ → ℕ → Type 0) → (ℕ → ℕ → Type 0) → ℕ → ℕ → List ℕ → Type 0
Go To Hold End p i [] = End p i
Go To Hold End p i (s ∷ w) = (q : ℕ) × (j : ℕ) × To p i q j × Hold q s × Go To Hold End q j w

-- The part can be left from the pair: its place is a last, its count at least the place's low.
abbrev pub Leaves : Tree → ℕ → ℕ → ℕ → Type 0
Leaves e o p i = Last e o p × (low e o p ≤ i)

-- From (p, i) the part reads the row and can then be left.
abbrev pub Tail : Tree → ℕ → ℕ → ℕ → List ℕ → Type 0
Tail e o p i w = Go (Takes e o) (Holds e o) (Leaves e o) p i w

-- The part reads the row from its beginning.
abbrev pub Runs : Tree → ℕ → List ℕ → Type 0
Runs e o [] = T (nullable e)
Runs e o (s ∷ w) = (q : ℕ) × First e o q × Holds e o q s × Tail e o q 1 w

-- From (p, i) the part reads a front of the row, and R holds of the rest.
abbrev pub Split : Tree → ℕ → (List ℕ → Type 0) → ℕ → ℕ → List ℕ → Type 0
Split a o R p i w = (u : List ℕ) × (v : List ℕ) × (w ≡ u ++ v) × Tail a o p i u × R v

-- The part reads a front of the row from its beginning, and R holds of the rest.
abbrev pub Cut : Tree → ℕ → (List ℕ → Type 0) → List ℕ → Type 0
Cut a o R w = (u : List ℕ) × (v : List ℕ) × (w ≡ u ++ v) × Runs a o u × R v

pub split_more :
    (a : Tree) (o : ℕ) (R : List ℕ → Type 0) (p i q j s : ℕ) (w : List ℕ) → Takes a o p i q j → Holds a o q s
    → Split a o R q j w → Split a o R p i (s ∷ w)
split_more a o R p i q j s w l h (u, v, e, t, r) = (s ∷ u, v, ap (λ x. s ∷ x) e, (q, j, l, h, t), r)

pub split_cut :
    (a : Tree) (o : ℕ) (R : List ℕ → Type 0) (q s : ℕ) (w : List ℕ) → First a o q → Holds a o q s → Split a o R q 1 w → Cut a o R (s ∷ w)
split_cut a o R q s w f h (u, v, e, t, r) = (s ∷ u, v, ap (λ x. s ∷ x) e, (q, f, h, t), r)

-- x is a part of y whose places have in y the links, sets and ways out that they have in x, and no others.
pub record Part (x : Tree) (m : ℕ) (y : Tree) (o : ℕ) : Type 0 where
  pub takes : (p i q j : ℕ) → Takes x m p i q j → Takes y o p i q j
  pub holds : (q s : ℕ) → Holds x m q s → Holds y o q s
  pub leaves : (p i : ℕ) → Leaves x m p i → Leaves y o p i
  pub takes⁻ : (p i q j : ℕ) → Range x m p → Takes y o p i q j → Takes x m p i q j
  pub holds⁻ : (q s : ℕ) → Range x m q → Holds y o q s → Holds x m q s
  pub leaves⁻ : (p i : ℕ) → Range x m p → Leaves y o p i → Leaves x m p i

module _ (x : Tree) (m : ℕ) (y : Tree) (o : ℕ) (f : Part x m y o) where
  pub tail_up : (w : List ℕ) (p i : ℕ) → Tail x m p i w → Tail y o p i w
  tail_up [] p i t = f.leaves p i t
  tail_up (s ∷ w) p i (q, j, l, h, t) = (q, j, f.takes p i q j l, f.holds q s h, tail_up w q j t)

  pub tail_down : (w : List ℕ) (p i : ℕ) → Range x m p → Tail y o p i w → Tail x m p i w
  tail_down [] p i r t = f.leaves⁻ p i r t
  tail_down (s ∷ w) p i r (q, j, l, h, t) =
      let k = f.takes⁻ p i q j r l in
      let r' = (takes_range x m p i q j k).1 in
      (q, j, k, f.holds⁻ q s r' h, tail_down w q j r' t)

-- A row that x reads, and then one that y reads from wherever x is left.
pub tail_on :
    (x y : Tree) (o : ℕ) → ((p i q j : ℕ) → Takes x o p i q j → Takes y o p i q j) → ((q s : ℕ) → Holds x o q s → Holds y o q s)
    → (v : List ℕ) → ((p i : ℕ) → Leaves x o p i → Tail y o p i v) → (u : List ℕ) (p i : ℕ) → Tail x o p i u → Tail y o p i (u ++ v)
tail_on x y o takes holds v more [] p i t = more p i t
tail_on x y o takes holds v more (s ∷ u) p i (q, j, l, h, t) =
    (q, j, takes p i q j l, holds q s h, tail_on x y o takes holds v more u q j t)
