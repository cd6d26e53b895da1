-- Firsts and lasts are the first and last places of rows of places.
use Rattle.std.proofs.Common.{◌≡◌, ℕ, zero, suc, ◌+◌, ◌-◌, T, eqb, List, [], ◌∷◌, ◌++◌, sym, refl, ap, subst, inl, inr, append_assoc, append-nil, arith, eqb→eq}
use mathlib.Core.List.{cons≢nil, nil≢cons}
use Rattle.automata.specs.Language.{Tree, empty, unit, cat, alt, star, plus, opt, rep, Power, WellFormed}
use Rattle.automata.specs.Places.{size, nullable, First, Last}
use Rattle.automata.specs.PlaceRows.{PlaceRow}
use Rattle.automata.proofs.Powers.{T_and, and_T, T_or, or_T, heads, tails, empty_halves, no_last, last_cases, power_one, power_empty, empty_power, power_same, power_push, power_first, power_last}
use Rattle.automata.proofs.Fronts.{flat_formed}

-- ---- the empty row, and some row

pub nullable_row : (e : Tree) (o : ℕ) → WellFormed e → T (nullable e) → PlaceRow e o []
nullable_row empty o h t = refl
nullable_row (unit S) o h t = absurd t
nullable_row (cat a b) o h t =
    let (x, y) = and_T (nullable a) (nullable b) t in
    ([], [], refl, nullable_row a o h.0 x, nullable_row b (o + size a) h.1 y)
nullable_row (alt a b) o h t =
    elim (or_T (nullable a) (nullable b) t) [ inl k ↦ inl (nullable_row a o h.0 k) | inr k ↦ inr (nullable_row b (o + size a) h.1 k) ]
nullable_row (star a) o h t = (0, refl)
nullable_row (plus a) o h t = (1, omega arith, power_one (PlaceRow a o) [] (nullable_row a o h t))
nullable_row (opt a) o h t = (0, omega arith, refl)
nullable_row (rep lo hi a) o h t =
    elim (or_T (eqb lo 0) (nullable a) t) [
      | inl k ↦ (0, omega (arith, eqb→eq lo 0 k), omega arith, refl)
      | inr k ↦ (hi, h.0, omega arith, power_empty (PlaceRow a o) (nullable_row a o (flat_formed a h.2) k) hi)
    ]

pub row_nullable : (e : Tree) (o : ℕ) → PlaceRow e o [] → T (nullable e)
row_nullable empty o h = tt
row_nullable (unit S) o h = absurd (nil≢cons h)
row_nullable (cat a b) o (u, v, e, x, y) =
    let (k, m) = empty_halves u v (sym e) in
    T_and (nullable a) (nullable b) (row_nullable a o (subst (PlaceRow a o) k x)) (row_nullable b (o + size a) (subst (PlaceRow b (o + size a)) m y))
row_nullable (alt a b) o (inl h) = T_or (nullable a) (nullable b) (inl (row_nullable a o h))
row_nullable (alt a b) o (inr h) = T_or (nullable a) (nullable b) (inr (row_nullable b (o + size a) h))
row_nullable (star a) o h = tt
row_nullable (plus a) o (n, l, h) = row_nullable a o (empty_power (PlaceRow a o) n l h)
row_nullable (opt a) o h = tt
row_nullable (rep zero hi a) o h = tt
row_nullable (rep (suc lo) hi a) o (n, l, m, h) =
    T_or (eqb (suc lo) 0) (nullable a) (inr (row_nullable a o (empty_power (PlaceRow a o) n (omega arith) h)))

pub some_row : (e : Tree) (o : ℕ) → WellFormed e → (w : List ℕ) × PlaceRow e o w
some_row empty o h = ([], refl)
some_row (unit S) o h = (suc o ∷ [], refl)
some_row (cat a b) o h =
    let (u, x) = some_row a o h.0 in
    let (v, y) = some_row b (o + size a) h.1 in
    (u ++ v, (u, v, refl, x, y))
some_row (alt a b) o h = let (u, x) = some_row a o h.0 in (u, inl x)
some_row (star a) o h = ([], (0, refl))
some_row (plus a) o h = let (u, x) = some_row a o h in (u, (1, omega arith, power_one (PlaceRow a o) u x))
some_row (opt a) o h = ([], (0, omega arith, refl))
some_row (rep lo hi a) o h =
    let (u, x) = some_row a o (flat_formed a h.2) in
    let (v, y) = power_same (PlaceRow a o) u x hi in
    (v, (hi, h.0, omega arith, y))

-- ---- firsts

pub first_row : (e : Tree) (o p : ℕ) → WellFormed e → First e o p → (w : List ℕ) × PlaceRow e o (p ∷ w)
first_row empty o p h f = absurd f
first_row (unit S) o p h f = ([], ap (λ x. x ∷ []) f)
first_row (cat a b) o p h (inl f) =
    let (u, x) = first_row a o p h.0 f in
    let (v, y) = some_row b (o + size a) h.1 in
    (u ++ v, (p ∷ u, v, refl, x, y))
first_row (cat a b) o p h (inr (n, f)) =
    let (v, y) = first_row b (o + size a) p h.1 f in
    (v, ([], p ∷ v, refl, nullable_row a o h.0 n, y))
first_row (alt a b) o p h (inl f) = let (u, x) = first_row a o p h.0 f in (u, inl x)
first_row (alt a b) o p h (inr f) = let (v, y) = first_row b (o + size a) p h.1 f in (v, inr y)
first_row (star a) o p h f = let (u, x) = first_row a o p h f in (u, (1, power_one (PlaceRow a o) (p ∷ u) x))
first_row (plus a) o p h f = let (u, x) = first_row a o p h f in (u, (1, omega arith, power_one (PlaceRow a o) (p ∷ u) x))
first_row (opt a) o p h f = let (u, x) = first_row a o p h f in (u, (1, omega arith, power_one (PlaceRow a o) (p ∷ u) x))
first_row (rep lo hi a) o p h f =
    let (u, x) = first_row a o p (flat_formed a h.2) f in
    let (v, y) = power_same (PlaceRow a o) (p ∷ u) x (hi - 1) in
    (u ++ v, (suc (hi - 1), omega arith, omega arith, (p ∷ u, v, refl, x, y)))

pub row_first : (e : Tree) (o p : ℕ) (w : List ℕ) → PlaceRow e o (p ∷ w) → First e o p
row_first empty o p w h = absurd (cons≢nil h)
row_first (unit S) o p w h = heads h
row_first (cat a b) o p w (u, v, e, x, y) = go u x e (row_first a o) (row_first b (o + size a) p w)
  where
    go :
        (u : List ℕ) → PlaceRow a o u → p ∷ w ≡ u ++ v → ((p : ℕ) (w : List ℕ) → PlaceRow a o (p ∷ w) → First a o p)
        → (PlaceRow b (o + size a) (p ∷ w) → First b (o + size a) p) → First (cat a b) o p
    go [] x e left right = inr (row_nullable a o x, right (subst (PlaceRow b (o + size a)) (sym e) y))
    go (c ∷ u) x e left right = inl (subst (First a o) (sym (heads e)) (left c u x))
row_first (alt a b) o p w (inl h) = inl (row_first a o p w h)
row_first (alt a b) o p w (inr h) = inr (row_first b (o + size a) p w h)
row_first (star a) o p w (n, h) = power_first (PlaceRow a o) (First a o) (row_first a o) n (p ∷ w) h p w refl
row_first (plus a) o p w (n, l, h) = power_first (PlaceRow a o) (First a o) (row_first a o) n (p ∷ w) h p w refl
row_first (opt a) o p w (n, l, h) = power_first (PlaceRow a o) (First a o) (row_first a o) n (p ∷ w) h p w refl
row_first (rep lo hi a) o p w (n, l, m, h) = power_first (PlaceRow a o) (First a o) (row_first a o) n (p ∷ w) h p w refl

-- ---- lasts

pub last_row : (e : Tree) (o p : ℕ) → WellFormed e → Last e o p → (w : List ℕ) × PlaceRow e o (w ++ (p ∷ []))
last_row empty o p h f = absurd f
last_row (unit S) o p h f = ([], ap (λ x. x ∷ []) f)
last_row (cat a b) o p h (inl f) =
    let (u, x) = some_row a o h.0 in
    let (v, y) = last_row b (o + size a) p h.1 f in
    (u ++ v, (u, v ++ (p ∷ []), append_assoc u v (p ∷ []), x, y))
last_row (cat a b) o p h (inr (n, f)) =
    let (u, x) = last_row a o p h.0 f in
    (u, (u ++ (p ∷ []), [], sym (append-nil (u ++ (p ∷ []))), x, nullable_row b (o + size a) h.1 n))
last_row (alt a b) o p h (inl f) = let (u, x) = last_row a o p h.0 f in (u, inl x)
last_row (alt a b) o p h (inr f) = let (v, y) = last_row b (o + size a) p h.1 f in (v, inr y)
last_row (star a) o p h f = let (u, x) = last_row a o p h f in (u, (1, power_one (PlaceRow a o) (u ++ (p ∷ [])) x))
last_row (plus a) o p h f = let (u, x) = last_row a o p h f in (u, (1, omega arith, power_one (PlaceRow a o) (u ++ (p ∷ [])) x))
last_row (opt a) o p h f = let (u, x) = last_row a o p h f in (u, (1, omega arith, power_one (PlaceRow a o) (u ++ (p ∷ [])) x))
last_row (rep lo hi a) o p h f =
    let (u, x) = last_row a o p (flat_formed a h.2) f in
    let (v, y) = power_same (PlaceRow a o) (u ++ (p ∷ [])) x (hi - 1) in
    let k = power_push (PlaceRow a o) (hi - 1) v (u ++ (p ∷ [])) y x in
    (v ++ u, (suc (hi - 1), omega arith, omega arith, subst (Power (PlaceRow a o) (suc (hi - 1))) (sym (append_assoc v u (p ∷ []))) k))

unit_last : (o p : ℕ) (w : List ℕ) → w ++ (p ∷ []) ≡ suc o ∷ [] → p ≡ suc o
unit_last o p [] e = heads e
unit_last o p (x ∷ w) e = absurd (no_last w p (tails e))

pub row_last : (e : Tree) (o p : ℕ) (w : List ℕ) → PlaceRow e o (w ++ (p ∷ [])) → Last e o p
row_last empty o p w h = absurd (no_last w p h)
row_last (unit S) o p w h = unit_last o p w h
row_last (cat a b) o p w (u, v, e, x, y) =
    elim (last_cases u v w p (sym e)) [
      | inl k ↦ inr (row_nullable b (o + size a) (subst (PlaceRow b (o + size a)) k.0 y), row_last a o p w (subst (PlaceRow a o) k.1 x))
      | inr k ↦ inl (row_last b (o + size a) p k.0 (subst (PlaceRow b (o + size a)) k.1 y))
    ]
row_last (alt a b) o p w (inl h) = inl (row_last a o p w h)
row_last (alt a b) o p w (inr h) = inr (row_last b (o + size a) p w h)
row_last (star a) o p w (n, h) = power_last (PlaceRow a o) (Last a o) (row_last a o) n (w ++ (p ∷ [])) h p w refl
row_last (plus a) o p w (n, l, h) = power_last (PlaceRow a o) (Last a o) (row_last a o) n (w ++ (p ∷ [])) h p w refl
row_last (opt a) o p w (n, l, h) = power_last (PlaceRow a o) (Last a o) (row_last a o) n (w ++ (p ∷ [])) h p w refl
row_last (rep lo hi a) o p w (n, l, m, h) = power_last (PlaceRow a o) (Last a o) (row_last a o) n (w ++ (p ∷ [])) h p w refl
