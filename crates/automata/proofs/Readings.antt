-- A row is in the language exactly when a row of places reads it; so firsts and lasts are the places that take first and last symbols.
use Rattle.std.proofs.Common.{◌≡◌, ℕ, zero, suc, ◌+◌, Bool, List, [], ◌∷◌, ◌++◌, sym, refl, ap, subst, inl, inr, arith}
use Rattle.std.specs.List.{AllZip, AllByRecursion}
use Rattle.std.proofs.ByRecursion.{All-append, All-weaker}
use Rattle.automata.specs.Language.{Tree, empty, unit, cat, alt, star, plus, opt, rep, Power, In, NoEmptySet}
use Rattle.automata.specs.Places.{size, First, Last, Holds}
use Rattle.automata.specs.PlaceRows.{PlaceRow, Reads}
use Rattle.automata.specs.Theorems.{RowsByPlaces, FirstsByRows, LastsByRows}
use Rattle.automata.proofs.Ranges.{Range, range_left, range_right}
use Rattle.automata.proofs.Parts.{holds_left⁻, holds_right⁻}
use Rattle.automata.proofs.PlaceRows.{first_row, row_first, last_row, row_last}
use Rattle.automata.proofs.Completions.{symbol_at}

-- ---- places beside symbols

each_like :
    (R R' : ℕ → ℕ → Type 0) (P : ℕ → Type 0) → ((p s : ℕ) → P p → R p s → R' p s)
    → (ps w : List ℕ) → AllByRecursion P ps → AllZip R ps w → AllZip R' ps w
each_like R R' P like [] [] r h = tt
each_like R R' P like [] (s ∷ w) r h = h
each_like R R' P like (p ∷ ps) [] r h = h
each_like R R' P like (p ∷ ps) (s ∷ w) r h = (like p s r.0 h.0, each_like R R' P like ps w r.1 h.1)

each_append : (R : ℕ → ℕ → Type 0) (ps qs u v : List ℕ) → AllZip R ps u → AllZip R qs v → AllZip R (ps ++ qs) (u ++ v)
each_append R [] qs [] v h k = k
each_append R [] qs (s ∷ u) v h k = absurd h
each_append R (p ∷ ps) qs [] v h k = absurd h
each_append R (p ∷ ps) qs (s ∷ u) v h k = (h.0, each_append R ps qs u v h.1 k)

each_cut : (R : ℕ → ℕ → Type 0) (ps qs w : List ℕ) → AllZip R (ps ++ qs) w → (u : List ℕ) × (v : List ℕ) × (w ≡ u ++ v) × AllZip R ps u × AllZip R qs v
each_cut R [] qs w h = ([], w, refl, tt, h)
each_cut R (p ∷ ps) qs [] h = absurd h
each_cut R (p ∷ ps) qs (s ∷ w) h =
    let (u, v, e, x, y) = each_cut R ps qs w h.1 in
    (s ∷ u, v, ap (λ z. s ∷ z) e, (h.0, x), y)

each_none : (R : ℕ → ℕ → Type 0) (w : List ℕ) → AllZip R [] w → w ≡ []
each_none R [] h = refl
each_none R (s ∷ w) h = absurd h

-- ---- the places of a row of places are places of the part

power_all : (P : ℕ → Type 0) (L : List ℕ → Type 0) → ((ps : List ℕ) → L ps → AllByRecursion P ps) → (n : ℕ) (ps : List ℕ) → Power L n ps → AllByRecursion P ps
power_all P L each zero ps h = subst (AllByRecursion P) (sym h) tt
power_all P L each (suc n) ps (x, y, e, h, k) = subst (AllByRecursion P) (sym e) (All-append P x y (each x h) (power_all P L each n y k))

all_left : (a b : Tree) (o : ℕ) (ps : List ℕ) → AllByRecursion (Range a o) ps → AllByRecursion (Range (alt a b) o) ps
all_left a b o ps h = All-weaker (Range a o) (Range (alt a b) o) (range_left a b o) ps h

all_right : (a b : Tree) (o : ℕ) (ps : List ℕ) → AllByRecursion (Range b (o + size a)) ps → AllByRecursion (Range (alt a b) o) ps
all_right a b o ps h = All-weaker (Range b (o + size a)) (Range (alt a b) o) (range_right a b o) ps h

pub row_range : (e : Tree) (o : ℕ) (ps : List ℕ) → PlaceRow e o ps → AllByRecursion (Range e o) ps
row_range empty o ps h = subst (AllByRecursion (Range empty o)) (sym h) tt
row_range (unit S) o ps h = subst (AllByRecursion (Range (unit S) o)) (sym h) ((omega arith, omega arith), tt)
row_range (cat a b) o ps (u, v, e, x, y) =
    subst (AllByRecursion (Range (cat a b) o)) (sym e)
    (All-append (Range (cat a b) o) u v (all_left a b o u (row_range a o u x)) (all_right a b o v (row_range b (o + size a) v y)))
row_range (alt a b) o ps (inl h) = all_left a b o ps (row_range a o ps h)
row_range (alt a b) o ps (inr h) = all_right a b o ps (row_range b (o + size a) ps h)
row_range (star a) o ps (n, h) = power_all (Range a o) (PlaceRow a o) (row_range a o) n ps h
row_range (plus a) o ps (n, l, h) = power_all (Range a o) (PlaceRow a o) (row_range a o) n ps h
row_range (opt a) o ps (n, l, h) = power_all (Range a o) (PlaceRow a o) (row_range a o) n ps h
row_range (rep lo hi a) o ps (n, l, m, h) = power_all (Range a o) (PlaceRow a o) (row_range a o) n ps h

-- ---- from the language to places

-- Some row of L reads w.
abbrev ReadBy : (ℕ → ℕ → Type 0) → (List ℕ → Type 0) → List ℕ → Type 0
ReadBy R L w = (ps : List ℕ) × L ps × AllZip R ps w

power_read :
    (R : ℕ → ℕ → Type 0) (L M : List ℕ → Type 0) → ((w : List ℕ) → L w → ReadBy R M w)
    → (n : ℕ) (w : List ℕ) → Power L n w → ReadBy R (Power M n) w
power_read R L M body zero w h = ([], refl, subst (λ z. AllZip R [] z) (sym h) tt)
power_read R L M body (suc n) w (x, y, e, h, k) =
    let (ps, a, c) = body x h in
    let (qs, b, d) = power_read R L M body n y k in
    (ps ++ qs, (ps, qs, refl, a, b), subst (λ z. AllZip R (ps ++ qs) z) (sym e) (each_append R ps qs x y c d))

each_left : (a b : Tree) (o : ℕ) (ps w : List ℕ) → PlaceRow a o ps → AllZip (Holds a o) ps w → AllZip (Holds (alt a b) o) ps w
each_left a b o ps w r h = each_like (Holds a o) (Holds (alt a b) o) (Range a o) (λ p s _ k. inl k) ps w (row_range a o ps r) h

each_right :
    (a b : Tree) (o : ℕ) (ps w : List ℕ) → PlaceRow b (o + size a) ps → AllZip (Holds b (o + size a)) ps w → AllZip (Holds (alt a b) o) ps w
each_right a b o ps w r h =
    each_like (Holds b (o + size a)) (Holds (alt a b) o) (Range b (o + size a)) (λ p s _ k. inr k) ps w (row_range b (o + size a) ps r) h

in_reads : (e : Tree) (o : ℕ) (w : List ℕ) → In e w → ReadBy (Holds e o) (PlaceRow e o) w
in_reads empty o w h = ([], refl, subst (λ z. AllZip (Holds empty o) [] z) (sym h) tt)
in_reads (unit S) o w (c, h, e) = (suc o ∷ [], refl, subst (λ z. AllZip (Holds (unit S) o) (suc o ∷ []) z) (sym e) ((refl, h), tt))
in_reads (cat a b) o w (u, v, e, x, y) =
    let (ps, k, c) = in_reads a o u x in
    let (qs, m, d) = in_reads b (o + size a) v y in
    let all = each_append (Holds (alt a b) o) ps qs u v (each_left a b o ps u k c) (each_right a b o qs v m d) in
    (ps ++ qs, (ps, qs, refl, k, m), subst (λ z. AllZip (Holds (alt a b) o) (ps ++ qs) z) (sym e) all)
in_reads (alt a b) o w (inl h) = let (ps, k, c) = in_reads a o w h in (ps, inl k, each_left a b o ps w k c)
in_reads (alt a b) o w (inr h) = let (ps, k, c) = in_reads b (o + size a) w h in (ps, inr k, each_right a b o ps w k c)
in_reads (star a) o w (n, h) = let (ps, k, c) = power_read (Holds a o) (In a) (PlaceRow a o) (in_reads a o) n w h in (ps, (n, k), c)
in_reads (plus a) o w (n, l, h) = let (ps, k, c) = power_read (Holds a o) (In a) (PlaceRow a o) (in_reads a o) n w h in (ps, (n, l, k), c)
in_reads (opt a) o w (n, l, h) = let (ps, k, c) = power_read (Holds a o) (In a) (PlaceRow a o) (in_reads a o) n w h in (ps, (n, l, k), c)
in_reads (rep lo hi a) o w (n, l, m, h) =
    let (ps, k, c) = power_read (Holds a o) (In a) (PlaceRow a o) (in_reads a o) n w h in
    (ps, (n, l, m, k), c)

-- ---- and back

read_power :
    (R : ℕ → ℕ → Type 0) (L M : List ℕ → Type 0) → ((ps w : List ℕ) → M ps → AllZip R ps w → L w)
    → (n : ℕ) (ps w : List ℕ) → Power M n ps → AllZip R ps w → Power L n w
read_power R L M body zero ps w h t = each_none R w (subst (λ z. AllZip R z w) h t)
read_power R L M body (suc n) ps w (x, y, e, h, k) t =
    let (u, v, d, a, b) = each_cut R x y w (subst (λ z. AllZip R z w) e t) in
    (u, v, d, body x u h a, read_power R L M body n y v k b)

each_left⁻ : (a b : Tree) (o : ℕ) (ps w : List ℕ) → PlaceRow a o ps → AllZip (Holds (alt a b) o) ps w → AllZip (Holds a o) ps w
each_left⁻ a b o ps w r h = each_like (Holds (alt a b) o) (Holds a o) (Range a o) (holds_left⁻ a b o) ps w (row_range a o ps r) h

each_right⁻ :
    (a b : Tree) (o : ℕ) (ps w : List ℕ) → PlaceRow b (o + size a) ps → AllZip (Holds (alt a b) o) ps w → AllZip (Holds b (o + size a)) ps w
each_right⁻ a b o ps w r h =
    each_like (Holds (alt a b) o) (Holds b (o + size a)) (Range b (o + size a)) (holds_right⁻ a b o) ps w (row_range b (o + size a) ps r) h

unit_reads : (S : ℕ → Bool) (o : ℕ) (w : List ℕ) → AllZip (Holds (unit S) o) (suc o ∷ []) w → In (unit S) w
unit_reads S o [] h = absurd h
unit_reads S o (s ∷ []) h = (s, h.0.1, refl)
unit_reads S o (s ∷ s' ∷ w) h = absurd h.1

reads_in : (e : Tree) (o : ℕ) (ps w : List ℕ) → PlaceRow e o ps → AllZip (Holds e o) ps w → In e w
reads_in empty o ps w h t = each_none (Holds empty o) w (subst (λ z. AllZip (Holds empty o) z w) h t)
reads_in (unit S) o ps w h t = unit_reads S o w (subst (λ z. AllZip (Holds (unit S) o) z w) h t)
reads_in (cat a b) o ps w (x, y, e, h, k) t =
    let (u, v, d, c, m) = each_cut (Holds (alt a b) o) x y w (subst (λ z. AllZip (Holds (alt a b) o) z w) e t) in
    (u, v, d, reads_in a o x u h (each_left⁻ a b o x u h c), reads_in b (o + size a) y v k (each_right⁻ a b o y v k m))
reads_in (alt a b) o ps w (inl h) t = inl (reads_in a o ps w h (each_left⁻ a b o ps w h t))
reads_in (alt a b) o ps w (inr h) t = inr (reads_in b (o + size a) ps w h (each_right⁻ a b o ps w h t))
reads_in (star a) o ps w (n, h) t = (n, read_power (Holds a o) (In a) (PlaceRow a o) (reads_in a o) n ps w h t)
reads_in (plus a) o ps w (n, l, h) t = (n, l, read_power (Holds a o) (In a) (PlaceRow a o) (reads_in a o) n ps w h t)
reads_in (opt a) o ps w (n, l, h) t = (n, l, read_power (Holds a o) (In a) (PlaceRow a o) (reads_in a o) n ps w h t)
reads_in (rep lo hi a) o ps w (n, l, m, h) t = (n, l, m, read_power (Holds a o) (In a) (PlaceRow a o) (reads_in a o) n ps w h t)

pub rows_by_places : RowsByPlaces
rows_by_places e o w = (
  (λ k. let (ps, r, t) = in_reads e o w k in (ps, (r, t))),
  (λ k. reads_in e o k.0 w k.1.0 k.1.1),
)

-- ---- firsts and lasts

-- Where no set is empty, every row of places reads some row.
some_symbols : (e : Tree) (o : ℕ) → NoEmptySet e → (ps : List ℕ) → AllByRecursion (Range e o) ps → (w : List ℕ) × AllZip (Holds e o) ps w
some_symbols e o ne [] r = ([], tt)
some_symbols e o ne (p ∷ ps) r =
    let (s, h) = symbol_at e o p ne r.0 in
    let (w, k) = some_symbols e o ne ps r.1 in
    (s ∷ w, (h, k))

one_symbol : (R : ℕ → ℕ → Type 0) (p : ℕ) (w : List ℕ) → AllZip R (p ∷ []) w → (s : ℕ) × (w ≡ s ∷ [])
one_symbol R p [] h = absurd h
one_symbol R p (s ∷ w) h = (s, ap (λ z. s ∷ z) (each_none R w h.1))

pub firsts_by_rows : FirstsByRows
firsts_by_rows e o p h ne = (to, λ k. row_first e o p k.0 k.3.0)
  where
    to : First e o p → (ps : List ℕ) × (s : ℕ) × (w : List ℕ) × Reads e o (p ∷ ps) (s ∷ w)
    to f =
        let (ps, r) = first_row e o p h f in
        let a = row_range e o (p ∷ ps) r in
        let (s, k) = symbol_at e o p ne a.0 in
        let (w, m) = some_symbols e o ne ps a.1 in
        (ps, s, w, (r, (k, m)))

pub lasts_by_rows : LastsByRows
lasts_by_rows e o p h ne = (to, λ k. row_last e o p k.0 k.3.0)
  where
    to : Last e o p → (ps : List ℕ) × (s : ℕ) × (w : List ℕ) × Reads e o (ps ++ (p ∷ [])) (w ++ (s ∷ []))
    to f =
        let (ps, r) = last_row e o p h f in
        let (v, k) = some_symbols e o ne (ps ++ (p ∷ [])) (row_range e o (ps ++ (p ∷ [])) r) in
        let (w, x, d, m, n) = each_cut (Holds e o) ps (p ∷ []) v k in
        let (s, c) = one_symbol (Holds e o) p x n in
        (ps, s, w, (r, subst (λ z. AllZip (Holds e o) (ps ++ (p ∷ [])) (w ++ z)) c (subst (λ z. AllZip (Holds e o) (ps ++ (p ∷ [])) z) d k)))
