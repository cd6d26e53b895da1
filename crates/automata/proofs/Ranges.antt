-- Every place of a part, and both ends of every link of it, lie in the part's range; inside its range a part settles low and width.
use Rattle.std.proofs.Common.{◌≡◌, ℕ, ◌+◌, ◌<◌, ◌≤◌, cond, leb, ◌⊎◌, inl, inr, arith, rules}
use Rattle.std.proofs.lemmas.Bool.Decides.{nat_tests}
use Rattle.std.proofs.lemmas.Bool.{cases_lt}
use Rattle.automata.specs.Language.{Tree, empty, unit, cat, alt, star, plus, opt, rep}
use Rattle.automata.specs.Places.{size, First, Last, Holds, low, width}
use Rattle.automata.specs.Links.{Meet, Within, Next, Cross, Takes, Link}

-- p is a place of the part.
abbrev pub Range : Tree → ℕ → ℕ → Type 0
Range e o p = (o < p) × (p ≤ o + size e)

-- A sequence and alternatives have the same range, so these serve both.
pub range_left : (a b : Tree) (o p : ℕ) → Range a o p → Range (alt a b) o p
range_left a b o p h = omega arith

pub range_right : (a b : Tree) (o p : ℕ) → Range b (o + size a) p → Range (alt a b) o p
range_right a b o p h = omega arith

pub apart : (a b : Tree) (o p : ℕ) → Range a o p → Range b (o + size a) p → ⊥
apart a b o p h k = omega arith

pub range_cases : (a b : Tree) (o p : ℕ) → Range (alt a b) o p → Range a o p ⊎ Range b (o + size a) p
range_cases a b o p h = elim (cases_lt (o + size a) p) [ inl k ↦ inr (omega arith) | inr k ↦ inl (omega arith) ]

-- ---- places

pub first_range : (e : Tree) (o p : ℕ) → First e o p → Range e o p
first_range empty o p h = absurd h
first_range (unit S) o p h = omega arith
first_range (cat a b) o p (inl h) = range_left a b o p (first_range a o p h)
first_range (cat a b) o p (inr h) = range_right a b o p (first_range b (o + size a) p h.1)
first_range (alt a b) o p (inl h) = range_left a b o p (first_range a o p h)
first_range (alt a b) o p (inr h) = range_right a b o p (first_range b (o + size a) p h)
first_range (star a) o p h = first_range a o p h
first_range (plus a) o p h = first_range a o p h
first_range (opt a) o p h = first_range a o p h
first_range (rep lo hi a) o p h = first_range a o p h

pub last_range : (e : Tree) (o p : ℕ) → Last e o p → Range e o p
last_range empty o p h = absurd h
last_range (unit S) o p h = omega arith
last_range (cat a b) o p (inl h) = range_right a b o p (last_range b (o + size a) p h)
last_range (cat a b) o p (inr h) = range_left a b o p (last_range a o p h.1)
last_range (alt a b) o p (inl h) = range_left a b o p (last_range a o p h)
last_range (alt a b) o p (inr h) = range_right a b o p (last_range b (o + size a) p h)
last_range (star a) o p h = last_range a o p h
last_range (plus a) o p h = last_range a o p h
last_range (opt a) o p h = last_range a o p h
last_range (rep lo hi a) o p h = last_range a o p h

pub holds_range : (e : Tree) (o p s : ℕ) → Holds e o p s → Range e o p
holds_range empty o p s h = absurd h
holds_range (unit S) o p s h = omega arith
holds_range (cat a b) o p s (inl h) = range_left a b o p (holds_range a o p s h)
holds_range (cat a b) o p s (inr h) = range_right a b o p (holds_range b (o + size a) p s h)
holds_range (alt a b) o p s (inl h) = range_left a b o p (holds_range a o p s h)
holds_range (alt a b) o p s (inr h) = range_right a b o p (holds_range b (o + size a) p s h)
holds_range (star a) o p s h = holds_range a o p s h
holds_range (plus a) o p s h = holds_range a o p s h
holds_range (opt a) o p s h = holds_range a o p s h
holds_range (rep lo hi a) o p s h = holds_range a o p s h

-- ---- links

-- p and q are places of the part.
abbrev pub Both : Tree → ℕ → ℕ → ℕ → Type 0
Both e o p q = Range e o p × Range e o q

both_left : (a b : Tree) (o p q : ℕ) → Both a o p q → Both (alt a b) o p q
both_left a b o p q h = (range_left a b o p h.0, range_left a b o q h.1)

both_right : (a b : Tree) (o p q : ℕ) → Both b (o + size a) p q → Both (alt a b) o p q
both_right a b o p q h = (range_right a b o p h.0, range_right a b o q h.1)

both_cat : (a b : Tree) (o p q : ℕ) → Last a o p × First b (o + size a) q → Both (alt a b) o p q
both_cat a b o p q h = (range_left a b o p (last_range a o p h.0), range_right a b o q (first_range b (o + size a) q h.1))

both_body : (a : Tree) (o p q : ℕ) → Last a o p × First a o q → Both a o p q
both_body a o p q h = (last_range a o p h.0, first_range a o q h.1)

pub meet_range : (e : Tree) (o p q : ℕ) → Meet e o p q → Both e o p q
meet_range empty o p q h = absurd h
meet_range (unit S) o p q h = absurd h
meet_range (cat a b) o p q (inl (inl h)) = both_left a b o p q (meet_range a o p q h)
meet_range (cat a b) o p q (inl (inr h)) = both_right a b o p q (meet_range b (o + size a) p q h)
meet_range (cat a b) o p q (inr h) = both_cat a b o p q h
meet_range (alt a b) o p q (inl h) = both_left a b o p q (meet_range a o p q h)
meet_range (alt a b) o p q (inr h) = both_right a b o p q (meet_range b (o + size a) p q h)
meet_range (star a) o p q (inl h) = meet_range a o p q h
meet_range (star a) o p q (inr h) = both_body a o p q h
meet_range (plus a) o p q (inl h) = meet_range a o p q h
meet_range (plus a) o p q (inr h) = both_body a o p q h
meet_range (opt a) o p q h = meet_range a o p q h
meet_range (rep lo hi a) o p q h = meet_range a o p q h

-- A cross link is a meeting.
pub cross_meets : (e : Tree) (o p q : ℕ) → Cross e o p q → Meet e o p q
cross_meets empty o p q h = h
cross_meets (unit S) o p q h = h
cross_meets (cat a b) o p q (inl (inl h)) = inl (inl (cross_meets a o p q h))
cross_meets (cat a b) o p q (inl (inr h)) = inl (inr (cross_meets b (o + size a) p q h))
cross_meets (cat a b) o p q (inr h) = inr h
cross_meets (alt a b) o p q (inl h) = inl (cross_meets a o p q h)
cross_meets (alt a b) o p q (inr h) = inr (cross_meets b (o + size a) p q h)
cross_meets (star a) o p q (inl h) = inl (cross_meets a o p q h)
cross_meets (star a) o p q (inr h) = inr h
cross_meets (plus a) o p q (inl h) = inl (cross_meets a o p q h)
cross_meets (plus a) o p q (inr h) = inr h
cross_meets (opt a) o p q h = cross_meets a o p q h
cross_meets (rep lo hi a) o p q h = search rules

pub cross_range : (e : Tree) (o p q : ℕ) → Cross e o p q → Both e o p q
cross_range e o p q h = meet_range e o p q (cross_meets e o p q h)

-- A within or a next link stays inside one counted repeat; such links come from the parts alone.
abbrev pub Stays : Tree → ℕ → ℕ → ℕ → Type 0
Stays e o p q = Within e o p q ⊎ Next e o p q

pub stays_cases : (a b : Tree) (o p q : ℕ) → Stays (alt a b) o p q → Stays a o p q ⊎ Stays b (o + size a) p q
stays_cases a b o p q (inl (inl h)) = inl (inl h)
stays_cases a b o p q (inl (inr h)) = inr (inl h)
stays_cases a b o p q (inr (inl h)) = inl (inr h)
stays_cases a b o p q (inr (inr h)) = inr (inr h)

pub no_stays : {A : Type 0} → ⊥ ⊎ ⊥ → A
no_stays (inl h) = absurd h
no_stays (inr h) = absurd h

alt_range :
    (a b : Tree) (o p q : ℕ) → (Stays a o p q → Both a o p q) → (Stays b (o + size a) p q → Both b (o + size a) p q)
    → Stays (alt a b) o p q → Both (alt a b) o p q
alt_range a b o p q left right h =
    elim (stays_cases a b o p q h) [ inl k ↦ both_left a b o p q (left k) | inr k ↦ both_right a b o p q (right k) ]

pub stays_range : (e : Tree) (o p q : ℕ) → Stays e o p q → Both e o p q
stays_range empty o p q h = no_stays h
stays_range (unit S) o p q h = no_stays h
stays_range (cat a b) o p q h = alt_range a b o p q (stays_range a o p q) (stays_range b (o + size a) p q) h
stays_range (alt a b) o p q h = alt_range a b o p q (stays_range a o p q) (stays_range b (o + size a) p q) h
stays_range (star a) o p q h = stays_range a o p q h
stays_range (plus a) o p q h = stays_range a o p q h
stays_range (opt a) o p q h = stays_range a o p q h
stays_range (rep lo hi a) o p q (inl h) = meet_range a o p q h
stays_range (rep lo hi a) o p q (inr (inl h)) = stays_range a o p q (inr h)
stays_range (rep lo hi a) o p q (inr (inr h)) = both_body a o p q h

pub takes_range : (e : Tree) (o p i q j : ℕ) → Takes e o p i q j → Both e o p q
takes_range e o p i q j (inl h) = stays_range e o p q (inl h.0)
takes_range e o p i q j (inr (inl h)) = stays_range e o p q (inr h.0)
takes_range e o p i q j (inr (inr h)) = cross_range e o p q h.0

pub link_range : (e : Tree) (p i q j : ℕ) → Link e p i q j → Range e 0 q
link_range e p i q j (inl h) = (takes_range e 0 p i q j h).1
link_range e p i q j (inr h) = first_range e 0 q h.1

-- ---- low and width

pub pick_left : (x y p m : ℕ) → p ≤ m → cond (leb p m) x y ≡ x
pick_left x y p m h = grind (arith, nat_tests)

pick_right : (x y p m : ℕ) → m < p → cond (leb p m) x y ≡ y
pick_right x y p m h = grind (arith, nat_tests)

-- x at m and y at o give p the same low and the same width.
abbrev pub SameBounds : Tree → ℕ → Tree → ℕ → ℕ → Type 0
SameBounds x m y o p = (low y o p ≡ low x m p) × (width y o p ≡ width x m p)

pub bounds_left : (a b : Tree) (o p : ℕ) → p ≤ o + size a → SameBounds a o (alt a b) o p
bounds_left a b o p h = (
  pick_left (low a o p) (low b (o + size a) p) p (o + size a) h,
  pick_left (width a o p) (width b (o + size a) p) p (o + size a) h,
)

pub bounds_right : (a b : Tree) (o p : ℕ) → o + size a < p → SameBounds b (o + size a) (alt a b) o p
bounds_right a b o p h = (
  pick_right (low a o p) (low b (o + size a) p) p (o + size a) h,
  pick_right (width a o p) (width b (o + size a) p) p (o + size a) h,
)

-- A place inside a counted repeat has the repeat's high as its width.
pub width_rep : (lo hi : ℕ) (a : Tree) (o p : ℕ) → Range a o p → width (rep lo hi a) o p ≡ hi
width_rep lo hi a o p r = grind (arith, nat_tests)
