-- How the links and ways out of a pattern come from those of its parts, and go back to them.
use Rattle.std.proofs.Common.{◌≡◌, ℕ, suc, ◌+◌, ◌<◌, ◌≤◌, Bool, true, false, cond, T, leb, ◌⊎◌, refl, inl, inr, ⊎_elim, arith}
use Rattle.std.proofs.lemmas.Bool.{cases_Bool}
use Rattle.std.proofs.lemmas.Bool.Decides.{nat_tests}
use Rattle.automata.specs.Language.{Tree, empty, unit, cat, alt, star, plus, opt, rep, Flat}
use Rattle.automata.specs.Places.{size, nullable, First, Last, Holds, low}
use Rattle.automata.specs.Links.{Meet, Cross, Takes}
use Rattle.automata.proofs.Powers.{decides_T}
use Rattle.automata.proofs.Ranges.{Range, apart, last_range, holds_range, takes_range, Stays, stays_cases, no_stays, stays_range, cross_range, cross_meets, bounds_left, bounds_right, width_rep}
use Rattle.automata.proofs.Runs.{Leaves, Part}

-- ---- alternatives: the links of either side

module _ (a b : Tree) (o p i : ℕ) where
  takes_left : (q j : ℕ) → Takes a o p i q j → Takes (alt a b) o p i q j
  takes_left q j (inl h) = inl (inl h.0, h.1)
  takes_left q j (inr (inl h)) =
      let r = (takes_range a o p i q j (inr (inl h))).0 in
      inr (inl (inl h.0, rw (bounds_left a b o p r.1).1 h.1, h.2))
  takes_left q j (inr (inr h)) =
      let r = (takes_range a o p i q j (inr (inr h))).0 in
      inr (inr (inl h.0, rw (bounds_left a b o p r.1).0 h.1, h.2))

  takes_right : (q j : ℕ) → Takes b (o + size a) p i q j → Takes (alt a b) o p i q j
  takes_right q j (inl h) = inl (inr h.0, h.1)
  takes_right q j (inr (inl h)) =
      let r = (takes_range b (o + size a) p i q j (inr (inl h))).0 in
      inr (inl (inr h.0, rw (bounds_right a b o p r.0).1 h.1, h.2))
  takes_right q j (inr (inr h)) =
      let r = (takes_range b (o + size a) p i q j (inr (inr h))).0 in
      inr (inr (inr h.0, rw (bounds_right a b o p r.0).0 h.1, h.2))

  takes_left⁻ : (q j : ℕ) → Range a o p → Takes (alt a b) o p i q j → Takes a o p i q j
  takes_left⁻ q j r (inl (inl h, e)) = inl (h, e)
  takes_left⁻ q j r (inl (inr h, e)) = absurd (apart a b o p r (stays_range b (o + size a) p q (inl h)).0)
  takes_left⁻ q j r (inr (inl (inl h, l, e))) = inr (inl (h, rw (bounds_left a b o p r.1).1 at l, e))
  takes_left⁻ q j r (inr (inl (inr h, l, e))) = absurd (apart a b o p r (stays_range b (o + size a) p q (inr h)).0)
  takes_left⁻ q j r (inr (inr (inl h, l, e))) = inr (inr (h, rw (bounds_left a b o p r.1).0 at l, e))
  takes_left⁻ q j r (inr (inr (inr h, l, e))) = absurd (apart a b o p r (cross_range b (o + size a) p q h).0)

  takes_right⁻ : (q j : ℕ) → Range b (o + size a) p → Takes (alt a b) o p i q j → Takes b (o + size a) p i q j
  takes_right⁻ q j r (inl (inr h, e)) = inl (h, e)
  takes_right⁻ q j r (inl (inl h, e)) = absurd (apart a b o p (stays_range a o p q (inl h)).0 r)
  takes_right⁻ q j r (inr (inl (inr h, l, e))) = inr (inl (h, rw (bounds_right a b o p r.0).1 at l, e))
  takes_right⁻ q j r (inr (inl (inl h, l, e))) = absurd (apart a b o p (stays_range a o p q (inr h)).0 r)
  takes_right⁻ q j r (inr (inr (inr h, l, e))) = inr (inr (h, rw (bounds_right a b o p r.0).0 at l, e))
  takes_right⁻ q j r (inr (inr (inl h, l, e))) = absurd (apart a b o p (cross_range a o p q h).0 r)

  leaves_left : Leaves a o p i → Leaves (alt a b) o p i
  leaves_left h = (inl h.0, rw (bounds_left a b o p (last_range a o p h.0).1).0 h.1)

  leaves_right : Leaves b (o + size a) p i → Leaves (alt a b) o p i
  leaves_right h = (inr h.0, rw (bounds_right a b o p (last_range b (o + size a) p h.0).0).0 h.1)

  leaves_left⁻ : Range a o p → Leaves (alt a b) o p i → Leaves a o p i
  leaves_left⁻ r (inl h, l) = (h, rw (bounds_left a b o p r.1).0 at l)
  leaves_left⁻ r (inr h, l) = absurd (apart a b o p r (last_range b (o + size a) p h))

  leaves_right⁻ : Range b (o + size a) p → Leaves (alt a b) o p i → Leaves b (o + size a) p i
  leaves_right⁻ r (inr h, l) = (h, rw (bounds_right a b o p r.0).0 at l)
  leaves_right⁻ r (inl h, l) = absurd (apart a b o p (last_range a o p h) r)

module _ (a b : Tree) (o q s : ℕ) where
  pub holds_left⁻ : Range a o q → Holds (alt a b) o q s → Holds a o q s
  holds_left⁻ r (inl h) = h
  holds_left⁻ r (inr h) = absurd (apart a b o q r (holds_range b (o + size a) q s h))

  pub holds_right⁻ : Range b (o + size a) q → Holds (alt a b) o q s → Holds b (o + size a) q s
  holds_right⁻ r (inl h) = absurd (apart a b o q (holds_range a o q s h) r)
  holds_right⁻ r (inr h) = h

pub left_part : (a b : Tree) (o : ℕ) → Part a o (alt a b) o
left_part a b o =
    record {
      takes = takes_left a b o;
      holds = λ q s h. inl h;
      leaves = leaves_left a b o;
      takes⁻ = λ p i q j. takes_left⁻ a b o p i q j;
      holds⁻ = holds_left⁻ a b o;
      leaves⁻ = leaves_left⁻ a b o;
    }

pub right_part : (a b : Tree) (o : ℕ) → Part b (o + size a) (alt a b) o
right_part a b o =
    record {
      takes = takes_right a b o;
      holds = λ q s h. inr h;
      leaves = leaves_right a b o;
      takes⁻ = λ p i q j. takes_right⁻ a b o p i q j;
      holds⁻ = holds_right⁻ a b o;
      leaves⁻ = leaves_right⁻ a b o;
    }

-- ---- a sequence: the links of alternatives, and a cross link from where the first can be left to a first of the second

module _ (a b : Tree) (o p i : ℕ) where
  takes_cat : (q j : ℕ) → Takes (alt a b) o p i q j → Takes (cat a b) o p i q j
  takes_cat q j (inl h) = inl h
  takes_cat q j (inr (inl h)) = inr (inl h)
  takes_cat q j (inr (inr (h, l, e))) = inr (inr (inl h, l, e))

  pub takes_first : (q j : ℕ) → Takes a o p i q j → Takes (cat a b) o p i q j
  takes_first q j h = takes_cat q j (takes_left a b o p i q j h)

  pub takes_over : (q : ℕ) → Leaves a o p i → First b (o + size a) q → Takes (cat a b) o p i q 1
  takes_over q h f = inr (inr (inr (h.0, f), (leaves_left a b o p i h).1, refl))

  takes_cat⁻ :
      (q j : ℕ) → Takes (cat a b) o p i q j
      → Takes (alt a b) o p i q j ⊎ (Last a o p × (low (alt a b) o p ≤ i) × First b (o + size a) q × (j ≡ 1))
  takes_cat⁻ q j (inl h) = inl (inl h)
  takes_cat⁻ q j (inr (inl h)) = inl (inr (inl h))
  takes_cat⁻ q j (inr (inr (inl h, l, e))) = inl (inr (inr (h, l, e)))
  takes_cat⁻ q j (inr (inr (inr (h, f), l, e))) = inr (h, l, f, e)

  pub takes_first⁻ :
      (q j : ℕ) → Range a o p → Takes (cat a b) o p i q j → Takes a o p i q j ⊎ (Leaves a o p i × First b (o + size a) q × (j ≡ 1))
  takes_first⁻ q j r h =
      elim (takes_cat⁻ q j h) [
        | inl k ↦ inl (takes_left⁻ a b o p i q j r k)
        | inr k ↦ inr (leaves_left⁻ a b o p i r (inl k.0, k.1), k.2, k.3)
      ]

  takes_second⁻ : (q j : ℕ) → Range b (o + size a) p → Takes (cat a b) o p i q j → Takes b (o + size a) p i q j
  takes_second⁻ q j r h =
      elim (takes_cat⁻ q j h) [
        | inl k ↦ takes_right⁻ a b o p i q j r k
        | inr k ↦ absurd (apart a b o p (last_range a o p k.0) r)
      ]

  pub leaves_first : T (nullable b) → Leaves a o p i → Leaves (cat a b) o p i
  leaves_first n h = (inr (n, h.0), (leaves_left a b o p i h).1)

  pub leaves_first⁻ : Range a o p → Leaves (cat a b) o p i → T (nullable b) × Leaves a o p i
  leaves_first⁻ r (inl h, l) = absurd (apart a b o p r (last_range b (o + size a) p h))
  leaves_first⁻ r (inr (n, h), l) = (n, leaves_left⁻ a b o p i r (inl h, l))

  leaves_second⁻ : Range b (o + size a) p → Leaves (cat a b) o p i → Leaves b (o + size a) p i
  leaves_second⁻ r (inl h, l) = leaves_right⁻ a b o p i r (inr h, l)
  leaves_second⁻ r (inr (n, h), l) = leaves_right⁻ a b o p i r (inl h, l)

pub second_part : (a b : Tree) (o : ℕ) → Part b (o + size a) (cat a b) o
second_part a b o =
    record {
      takes = λ p i q j h. takes_cat a b o p i q j (takes_right a b o p i q j h);
      holds = λ q s h. inr h;
      leaves = λ p i h. (inl h.0, (leaves_right a b o p i h).1);
      takes⁻ = λ p i q j. takes_second⁻ a b o p i q j;
      holds⁻ = holds_right⁻ a b o;
      leaves⁻ = leaves_second⁻ a b o;
    }

-- ---- `*` and `+`, which have the same links: those of the body, and a cross link from where it can be left to a first

module _ (a : Tree) (o p i : ℕ) where
  pub takes_star : (q j : ℕ) → Takes a o p i q j → Takes (star a) o p i q j
  takes_star q j (inl h) = inl h
  takes_star q j (inr (inl h)) = inr (inl h)
  takes_star q j (inr (inr (h, l, e))) = inr (inr (inl h, l, e))

  pub takes_again : (q : ℕ) → Leaves a o p i → First a o q → Takes (star a) o p i q 1
  takes_again q h f = inr (inr (inr (h.0, f), h.1, refl))

  pub takes_star⁻ : (q j : ℕ) → Takes (star a) o p i q j → Takes a o p i q j ⊎ (Leaves a o p i × First a o q × (j ≡ 1))
  takes_star⁻ q j (inl h) = inl (inl h)
  takes_star⁻ q j (inr (inl h)) = inl (inr (inl h))
  takes_star⁻ q j (inr (inr (inl h, l, e))) = inl (inr (inr (h, l, e)))
  takes_star⁻ q j (inr (inr (inr (h, f), l, e))) = inr ((h, l), f, e)

-- ---- a body without counted repeats: every low is 1, and its links are its meetings, all of them cross

pick_one : (c : Bool) (x y : ℕ) → x ≡ 1 → y ≡ 1 → cond c x y ≡ 1
pick_one true x y h k = h
pick_one false x y h k = k

flat_low : (e : Tree) (o p : ℕ) → Flat e → low e o p ≡ 1
flat_low empty o p h = refl
flat_low (unit S) o p h = refl
flat_low (cat a b) o p h = pick_one (leb p (o + size a)) _ _ (flat_low a o p h.0) (flat_low b (o + size a) p h.1)
flat_low (alt a b) o p h = pick_one (leb p (o + size a)) _ _ (flat_low a o p h.0) (flat_low b (o + size a) p h.1)
flat_low (star a) o p h = flat_low a o p h
flat_low (plus a) o p h = flat_low a o p h
flat_low (opt a) o p h = flat_low a o p h
flat_low (rep lo hi a) o p h = absurd h

flat_stays : (e : Tree) (o p q : ℕ) → Flat e → Stays e o p q → ⊥
flat_stays empty o p q h k = no_stays k
flat_stays (unit S) o p q h k = no_stays k
flat_stays (cat a b) o p q h k = ⊎_elim (flat_stays a o p q h.0) (flat_stays b (o + size a) p q h.1) (stays_cases a b o p q k)
flat_stays (alt a b) o p q h k = ⊎_elim (flat_stays a o p q h.0) (flat_stays b (o + size a) p q h.1) (stays_cases a b o p q k)
flat_stays (star a) o p q h k = flat_stays a o p q h k
flat_stays (plus a) o p q h k = flat_stays a o p q h k
flat_stays (opt a) o p q h k = flat_stays a o p q h k
flat_stays (rep lo hi a) o p q h k = h

flat_cross : (e : Tree) (o p q : ℕ) → Flat e → Meet e o p q → Cross e o p q
flat_cross empty o p q h k = k
flat_cross (unit S) o p q h k = k
flat_cross (cat a b) o p q h (inl (inl k)) = inl (inl (flat_cross a o p q h.0 k))
flat_cross (cat a b) o p q h (inl (inr k)) = inl (inr (flat_cross b (o + size a) p q h.1 k))
flat_cross (cat a b) o p q h (inr k) = inr k
flat_cross (alt a b) o p q h (inl k) = inl (flat_cross a o p q h.0 k)
flat_cross (alt a b) o p q h (inr k) = inr (flat_cross b (o + size a) p q h.1 k)
flat_cross (star a) o p q h (inl k) = inl (flat_cross a o p q h k)
flat_cross (star a) o p q h (inr k) = inr k
flat_cross (plus a) o p q h (inl k) = inl (flat_cross a o p q h k)
flat_cross (plus a) o p q h (inr k) = inr k
flat_cross (opt a) o p q h k = flat_cross a o p q h k
flat_cross (rep lo hi a) o p q h k = absurd h

pub body_takes : (a : Tree) (o p q : ℕ) → Flat a → Meet a o p q → Takes a o p 1 q 1
body_takes a o p q h m = inr (inr (flat_cross a o p q h m, omega (arith, flat_low a o p h), refl))

pub body_meets : (a : Tree) (o p i q j : ℕ) → Flat a → Takes a o p i q j → Meet a o p q
body_meets a o p i q j h (inl (k, e)) = absurd (flat_stays a o p q h (inl k))
body_meets a o p i q j h (inr (inl (k, l, e))) = absurd (flat_stays a o p q h (inr k))
body_meets a o p i q j h (inr (inr (k, l, e))) = cross_meets a o p q k

pub body_leaves : (a : Tree) (o p : ℕ) → Flat a → Last a o p → Leaves a o p 1
body_leaves a o p h k = (k, omega (arith, flat_low a o p h))

-- ---- a counted repeat: the meetings of its body at the same count, and a last with a first at the next

pub takes_next : (lo hi : ℕ) (a : Tree) (o p i q : ℕ) → Last a o p → First a o q → i < hi → Takes (rep lo hi a) o p i q (suc i)
takes_next lo hi a o p i q l f h = inr (inl (inr (l, f), rw (width_rep lo hi a o p (last_range a o p l)) h, refl))

pub takes_rep⁻ :
    (lo hi : ℕ) (a : Tree) (o p i q j : ℕ) → Flat a → Takes (rep lo hi a) o p i q j
    → (Meet a o p q × (j ≡ i)) ⊎ (Last a o p × First a o q × (i < hi) × (j ≡ suc i))
takes_rep⁻ lo hi a o p i q j h (inl k) = inl k
takes_rep⁻ lo hi a o p i q j h (inr (inl (inl k, l, e))) = absurd (flat_stays a o p q h (inr k))
takes_rep⁻ lo hi a o p i q j h (inr (inl (inr (x, f), l, e))) = inr (x, f, rw (width_rep lo hi a o p (last_range a o p x)) at l, e)
takes_rep⁻ lo hi a o p i q j h (inr (inr (k, l, e))) = absurd k

-- The low of a place inside is what lets the repeat be left: any count where the body is nullable, else one from the repeat's low.
low_enough : (lo hi : ℕ) (a : Tree) (o p i : ℕ) → Range a o p → T (nullable a) ⊎ (lo ≤ i) → low (rep lo hi a) o p ≤ i
low_enough lo hi a o p i r (inl h) = let is = (decides_T (nullable a)).1 h in grind (arith, nat_tests)
low_enough lo hi a o p i r (inr h) = grind (arith, nat_tests)

enough_low : (lo hi : ℕ) (a : Tree) (o p i : ℕ) → Range a o p → low (rep lo hi a) o p ≤ i → T (nullable a) ⊎ (lo ≤ i)
enough_low lo hi a o p i r h =
    elim (cases_Bool (nullable a)) [ inl is ↦ inl ((decides_T (nullable a)).0 is) | inr is ↦ inr (grind (arith, nat_tests)) ]

pub leaves_rep : (lo hi : ℕ) (a : Tree) (o p i : ℕ) → Last a o p → T (nullable a) ⊎ (lo ≤ i) → Leaves (rep lo hi a) o p i
leaves_rep lo hi a o p i l h = (l, low_enough lo hi a o p i (last_range a o p l) h)

pub leaves_rep⁻ : (lo hi : ℕ) (a : Tree) (o p i : ℕ) → Leaves (rep lo hi a) o p i → T (nullable a) ⊎ (lo ≤ i)
leaves_rep⁻ lo hi a o p i (l, h) = enough_low lo hi a o p i (last_range a o p l) h
