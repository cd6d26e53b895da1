-- The rows of a pattern are those whose front fits: rows are runs, and runs of the whole pattern are what the front follows.
use Rattle.std.proofs.Common.{◌≡◌, ℕ, suc, ◌+◌, Bool, List, [], ◌∷◌, ◌++◌, sym, refl, subst, inl, inr, arith}
use Rattle.automata.specs.Language.{Tree, empty, unit, cat, alt, star, plus, opt, rep, In, Flat, WellFormed}
use Rattle.automata.specs.Places.{size, Holds}
use Rattle.automata.specs.Links.{Link}
use Rattle.automata.specs.Step.{Step, Start, After, Accepts}
use Rattle.automata.specs.Theorems.{LanguageByFronts, NullableByRows, FrontByStep}
use Rattle.automata.proofs.Ranges.{Range, first_range, last_range, takes_range}
use Rattle.automata.proofs.Runs.{Go, Tail, Runs}
use Rattle.automata.proofs.Sequences.{alt_runs, runs_alt, cat_runs, runs_cat}
use Rattle.automata.proofs.Repeats.{star_runs, runs_star, plus_runs, runs_plus, opt_runs, runs_opt}
use Rattle.automata.proofs.Counted.{rep_runs, runs_rep}

pub flat_formed : (e : Tree) → Flat e → WellFormed e
flat_formed empty h = tt
flat_formed (unit S) h = tt
flat_formed (cat a b) h = (flat_formed a h.0, flat_formed b h.1)
flat_formed (alt a b) h = (flat_formed a h.0, flat_formed b h.1)
flat_formed (star a) h = flat_formed a h
flat_formed (plus a) h = flat_formed a h
flat_formed (opt a) h = flat_formed a h
flat_formed (rep lo hi a) h = absurd h

-- ---- rows and runs

pub in_runs : (e : Tree) (o : ℕ) → WellFormed e → (w : List ℕ) → In e w → Runs e o w
in_runs empty o h w k = subst (λ z. Runs empty o z) (sym k) tt
in_runs (unit S) o h w (c, k, e) = subst (λ z. Runs (unit S) o z) (sym e) (suc o, refl, (refl, k), (refl, omega arith))
in_runs (cat a b) o h w (u, v, e, x, y) =
    subst (λ z. Runs (cat a b) o z) (sym e) (cat_runs a b o u v (in_runs a o h.0 u x) (in_runs b (o + size a) h.1 v y))
in_runs (alt a b) o h w (inl k) = alt_runs a b o w (inl (in_runs a o h.0 w k))
in_runs (alt a b) o h w (inr k) = alt_runs a b o w (inr (in_runs b (o + size a) h.1 w k))
in_runs (star a) o h w (n, k) = star_runs a o (in_runs a o h) n w k
in_runs (plus a) o h w (n, l, k) = plus_runs a o (in_runs a o h) n w l k
in_runs (opt a) o h w (n, l, k) = opt_runs a o (in_runs a o h) n w l k
in_runs (rep lo hi a) o h w (n, l, m, k) = rep_runs lo hi a o h.2 (in_runs a o (flat_formed a h.2)) n w k m (inr l)

empty_in : (o : ℕ) (w : List ℕ) → Runs empty o w → In empty w
empty_in o [] h = refl
empty_in o (s ∷ w) (q, f, h, t) = absurd f

unit_in : (S : ℕ → Bool) (o : ℕ) (w : List ℕ) → Runs (unit S) o w → In (unit S) w
unit_in S o [] h = absurd h
unit_in S o (s ∷ []) (q, f, (e, h), t) = (s, h, refl)
unit_in S o (s ∷ s' ∷ w) (q, f, h, (q', j, inl k, h', t)) = absurd k.0
unit_in S o (s ∷ s' ∷ w) (q, f, h, (q', j, inr (inl k), h', t)) = absurd k.0
unit_in S o (s ∷ s' ∷ w) (q, f, h, (q', j, inr (inr k), h', t)) = absurd k.0

pub runs_in : (e : Tree) (o : ℕ) → WellFormed e → (w : List ℕ) → Runs e o w → In e w
runs_in empty o h w k = empty_in o w k
runs_in (unit S) o h w k = unit_in S o w k
runs_in (cat a b) o h w k =
    let (u, v, e, x, y) = runs_cat a b o w k in
    (u, v, e, runs_in a o h.0 u x, runs_in b (o + size a) h.1 v y)
runs_in (alt a b) o h w k =
    elim (runs_alt a b o w k) [ inl x ↦ inl (runs_in a o h.0 w x) | inr x ↦ inr (runs_in b (o + size a) h.1 w x) ]
runs_in (star a) o h w k = runs_star a o (runs_in a o h) w k
runs_in (plus a) o h w k = runs_plus a o (runs_in a o h) w k
runs_in (opt a) o h w k = runs_opt a o (runs_in a o h) w k
runs_in (rep lo hi a) o h w k = runs_rep lo hi a o h.2 h.0 (runs_in a o (flat_formed a h.2)) h.1 w k

pub nullable_by_rows : NullableByRows
nullable_by_rows e h = (runs_in e 0 h [], in_runs e 0 h [])

-- ---- runs of the whole pattern

-- From (p, i) the whole pattern reads the row up to a pair that accepts.
abbrev pub Whole : Tree → ℕ → ℕ → List ℕ → Type 0
Whole e p i w = Go (Link e) (Holds e 0) (Accepts e) p i w

not_start : (e : Tree) (p : ℕ) → Range e 0 p → p ≡ 0 → ⊥
not_start e p r z = omega arith

-- Behind the start, these are the runs of the pattern as a part.
tail_whole : (e : Tree) (w : List ℕ) (p i : ℕ) → Tail e 0 p i w → Whole e p i w
tail_whole e [] p i t = inr t
tail_whole e (s ∷ w) p i (q, j, l, h, t) = (q, j, inl l, h, tail_whole e w q j t)

whole_tail : (e : Tree) (w : List ℕ) (p i : ℕ) → Range e 0 p → Whole e p i w → Tail e 0 p i w
whole_tail e [] p i r (inl h) = absurd (not_start e p r h.0)
whole_tail e [] p i r (inr h) = h
whole_tail e (s ∷ w) p i r (q, j, inl l, h, t) = (q, j, l, h, whole_tail e w q j (takes_range e 0 p i q j l).1 t)
whole_tail e (s ∷ w) p i r (q, j, inr l, h, t) = absurd (not_start e p r l.0)

runs_whole : (e : Tree) (w : List ℕ) → Runs e 0 w → Whole e 0 1 w
runs_whole e [] h = inl (refl, refl, h)
runs_whole e (s ∷ w) (q, f, h, t) = (q, 1, inr (refl, f, omega arith, refl), h, tail_whole e w q 1 t)

whole_runs : (e : Tree) (w : List ℕ) → Whole e 0 1 w → Runs e 0 w
whole_runs e [] (inl h) = h.2
whole_runs e [] (inr h) = absurd (not_start e 0 (last_range e 0 0 h.0) refl)
whole_runs e (s ∷ w) (q, j, inl l, h, t) = absurd (not_start e 0 (takes_range e 0 0 1 q j l).0 refl)
whole_runs e (s ∷ w) (q, j, inr (z, f, l, k), h, t) =
    (q, f, h, whole_tail e w q 1 (first_range e 0 q f) (subst (λ x. Whole e q x w) k t))

-- ---- runs and fronts

pub whole_after :
    (e : Tree) (w : List ℕ) (F : ℕ → ℕ → Type 0)
    → (p : ℕ) × (i : ℕ) × F p i × Whole e p i w → (p : ℕ) × (i : ℕ) × After e F w p i × Accepts e p i
whole_after e [] F h = h
whole_after e (s ∷ w) F (p, i, f, (q, j, l, k, t)) = whole_after e w (Step e s F) (q, j, (k, (p, i, f, l)), t)

pub after_whole :
    (e : Tree) (w : List ℕ) (F : ℕ → ℕ → Type 0)
    → (p : ℕ) × (i : ℕ) × After e F w p i × Accepts e p i → (p : ℕ) × (i : ℕ) × F p i × Whole e p i w
after_whole e [] F h = h
after_whole e (s ∷ w) F h =
    let (q, j, (k, (p, i, f, l)), t) = after_whole e w (Step e s F) h in
    (p, i, f, (q, j, l, k, t))

pub language_by_fronts_lem : LanguageByFronts
language_by_fronts_lem e w h = (
  (λ k. whole_after e w Start (0, 1, (refl, refl), runs_whole e w (in_runs e 0 h w k))),
  (λ k.
      let (p, i, (x, y), t) = after_whole e w Start k in
      runs_in e 0 h w (whole_runs e w (subst (λ n. Whole e 0 n w) y (subst (λ n. Whole e n i w) x t)))),
)

pub after_append : (e : Tree) (v w : List ℕ) (F : ℕ → ℕ → Type 0) → After e F (v ++ w) ≡ After e (After e F v) w
after_append e [] w F = refl
after_append e (s ∷ v) w F = after_append e v w (Step e s F)

pub front_by_step : FrontByStep
front_by_step e w s q j = (
  (λ k. subst (λ G. G q j) (after_append e w (s ∷ []) Start) k),
  (λ k. subst (λ G. G q j) (sym (after_append e w (s ∷ []) Start)) k),
)
