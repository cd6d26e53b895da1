-- Links keep pairs within the widths, so every pair that stands is within them.
use Rattle.std.proofs.Common.{◌≡◌, ℕ, ◌+◌, ◌≤◌, Bool, true, false, cond, ◌&&◌, ltb, leb, ◌⊎◌, List, [], ◌∷◌, sym, refl, ◌∙◌, inl, inr, arith}
use Rattle.std.proofs.lemmas.Bool.Decides.{nat_tests}
use Rattle.automata.specs.Language.{Tree, empty, unit, cat, alt, star, plus, opt, rep, WellFormed}
use Rattle.automata.specs.Places.{size, low, width}
use Rattle.automata.specs.Links.{Link}
use Rattle.automata.specs.Step.{Step, Start, After}
use Rattle.automata.specs.Distances.{Inside}
use Rattle.automata.specs.Theorems.{FrontInside, StartBounds}
use Rattle.automata.proofs.Ranges.{Stays, stays_cases, no_stays, stays_range, link_range, bounds_left, bounds_right, width_rep}

-- ---- the start

-- A place before the part's range has low 1 and width 1 there.
abbrev One : Tree → ℕ → ℕ → Type 0
One e o p = (low e o p ≡ 1) × (width e o p ≡ 1)

alt_before : (a b : Tree) (o p : ℕ) → p ≤ o → One a o p → One (alt a b) o p
alt_before a b o p h m = let k = bounds_left a b o p (omega arith) in (k.0 ∙ m.0, k.1 ∙ m.1)

pub bounds_before : (e : Tree) (o p : ℕ) → p ≤ o → One e o p
bounds_before empty o p h = (refl, refl)
bounds_before (unit S) o p h = (refl, refl)
bounds_before (cat a b) o p h = alt_before a b o p h (bounds_before a o p h)
bounds_before (alt a b) o p h = alt_before a b o p h (bounds_before a o p h)
bounds_before (star a) o p h = bounds_before a o p h
bounds_before (plus a) o p h = bounds_before a o p h
bounds_before (opt a) o p h = bounds_before a o p h
bounds_before (rep lo hi a) o p h = (grind (arith, nat_tests), grind (arith, nat_tests))

pub start_bounds : StartBounds
start_bounds e = bounds_before e 0 0 (omega arith)

-- ---- widths

pick_some : (c : Bool) (x y : ℕ) → 1 ≤ x → 1 ≤ y → 1 ≤ cond c x y
pick_some true x y h k = h
pick_some false x y h k = k

pub width_some : (e : Tree) (o p : ℕ) → WellFormed e → 1 ≤ width e o p
width_some empty o p h = omega arith
width_some (unit S) o p h = omega arith
width_some (cat a b) o p h = pick_some (leb p (o + size a)) _ _ (width_some a o p h.0) (width_some b (o + size a) p h.1)
width_some (alt a b) o p h = pick_some (leb p (o + size a)) _ _ (width_some a o p h.0) (width_some b (o + size a) p h.1)
width_some (star a) o p h = width_some a o p h
width_some (plus a) o p h = width_some a o p h
width_some (opt a) o p h = width_some a o p h
width_some (rep lo hi a) o p h = pick_some (ltb o p && leb p (o + size a)) hi 1 h.1 (omega arith)

alt_width :
    (a b : Tree) (o p q : ℕ) → (Stays a o p q → width a o p ≡ width a o q)
    → (Stays b (o + size a) p q → width b (o + size a) p ≡ width b (o + size a) q)
    → Stays (alt a b) o p q → width (alt a b) o p ≡ width (alt a b) o q
alt_width a b o p q left right h = go (stays_cases a b o p q h)
  where
    go : Stays a o p q ⊎ Stays b (o + size a) p q → width (alt a b) o p ≡ width (alt a b) o q
    go (inl k) =
        let r = stays_range a o p q k in
        (bounds_left a b o p r.0.1).1 ∙ (left k ∙ sym (bounds_left a b o q r.1.1).1)
    go (inr k) =
        let r = stays_range b (o + size a) p q k in
        (bounds_right a b o p r.0.0).1 ∙ (right k ∙ sym (bounds_right a b o q r.1.0).1)

-- The ends of a within or a next link have one width.
pub stays_width : (e : Tree) (o p q : ℕ) → Stays e o p q → width e o p ≡ width e o q
stays_width empty o p q h = no_stays h
stays_width (unit S) o p q h = no_stays h
stays_width (cat a b) o p q h = alt_width a b o p q (stays_width a o p q) (stays_width b (o + size a) p q) h
stays_width (alt a b) o p q h = alt_width a b o p q (stays_width a o p q) (stays_width b (o + size a) p q) h
stays_width (star a) o p q h = stays_width a o p q h
stays_width (plus a) o p q h = stays_width a o p q h
stays_width (opt a) o p q h = stays_width a o p q h
stays_width (rep lo hi a) o p q h =
    let r = stays_range (rep lo hi a) o p q h in
    width_rep lo hi a o p r.0 ∙ sym (width_rep lo hi a o q r.1)

-- ---- pairs within the widths

pub link_inside : (e : Tree) (p i q j : ℕ) → WellFormed e → Inside e p i → Link e p i q j → Inside e q j
link_inside e p i q j h f (inl (inl (k, d))) =
    let r = stays_range e 0 p q (inl k) in
    omega (arith, stays_width e 0 p q (inl k))
link_inside e p i q j h f (inl (inr (inl (k, l, d)))) =
    let r = stays_range e 0 p q (inr k) in
    omega (arith, stays_width e 0 p q (inr k))
link_inside e p i q j h f (inl (inr (inr k))) =
    let r = link_range e p i q j (inl (inr (inr k))) in
    omega (arith, width_some e 0 q h)
link_inside e p i q j h f (inr k) =
    let r = link_range e p i q j (inr k) in
    omega (arith, width_some e 0 q h)

-- Every pair of F is within the widths.
abbrev pub AllInside : Tree → (ℕ → ℕ → Type 0) → Type 0
AllInside e F = (p i : ℕ) → F p i → Inside e p i

pub step_inside : (e : Tree) (s : ℕ) (F : ℕ → ℕ → Type 0) → WellFormed e → AllInside e F → AllInside e (Step e s F)
step_inside e s F h all q j (k, (p, i, f, l)) = link_inside e p i q j h (all p i f) l

pub after_inside : (e : Tree) (w : List ℕ) (F : ℕ → ℕ → Type 0) → WellFormed e → AllInside e F → AllInside e (After e F w)
after_inside e [] F h all = all
after_inside e (s ∷ w) F h all = after_inside e w (Step e s F) h (step_inside e s F h all)

pub start_inside : (e : Tree) → WellFormed e → AllInside e Start
start_inside e h p i k = omega (arith, width_some e 0 p h)

pub front_inside : FrontInside
front_inside e w p i h k = after_inside e w Start h (start_inside e h) p i k
