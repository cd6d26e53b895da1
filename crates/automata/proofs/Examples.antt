-- The worked examples, by computing one test over the table.
use Rattle.std.proofs.Common.{◌≡◌, ℕ, zero, suc, Bool, true, false, ◌&&◌, ◌||◌, T, eqb, ◌↔◌, List, [], ◌∷◌, refl, subst, inl, inr}
use mathlib.Core.Bool.{false≢true}
use Rattle.std.specs.List.{AllByRecursion}
use Rattle.std.proofs.lemmas.Bool.{and_parts, or_cases, eqb-true}
use Rattle.automata.specs.Language.{Tree, empty, unit, cat, alt, star, plus, opt, rep, WellFormed, NoEmptySet}
use Rattle.automata.specs.Step.{Stands}
use Rattle.automata.specs.Decide.{well_formedb, acceptsb}
use Rattle.automata.specs.Examples.{Said, front, fits, needs, stuck, Listed, Means, Example, table, ExamplesHold}
use Rattle.automata.proofs.Powers.{decides_T}
use Rattle.automata.proofs.Decide.{decides_formed}
use Rattle.automata.proofs.Computed.{any, front_pairs, needb, front_same, fits_by_test, need_by_test, stuck_by_test}

-- ---- every set holds a code below 64

abbrev someb : (ℕ → Bool) → ℕ → Bool
someb S zero = false
someb S (suc n) = S n || someb S n

abbrev setsb : Tree → Bool
setsb empty = true
setsb (unit S) = someb S 64
setsb (cat a b) = setsb a && setsb b
setsb (alt a b) = setsb a && setsb b
setsb (star a) = setsb a
setsb (plus a) = setsb a
setsb (opt a) = setsb a
setsb (rep lo hi a) = setsb a

some_code : (S : ℕ → Bool) (n : ℕ) → someb S n ≡ true → (c : ℕ) × T (S c)
some_code S zero h = absurd (false≢true h)
some_code S (suc n) h = elim (or_cases (S n) (someb S n) h) [ inl k ↦ (n, (decides_T (S n)).0 k) | inr k ↦ some_code S n k ]

sets : (e : Tree) → setsb e ≡ true → NoEmptySet e
sets empty h = tt
sets (unit S) h = some_code S 64 h
sets (cat a b) h = let (x, y) = and_parts (setsb a) (setsb b) h in (sets a x, sets b y)
sets (alt a b) h = let (x, y) = and_parts (setsb a) (setsb b) h in (sets a x, sets b y)
sets (star a) h = sets a h
sets (plus a) h = sets a h
sets (opt a) h = sets a h
sets (rep lo hi a) h = sets a h

-- ---- what an example says

abbrev sameb : List (ℕ × ℕ) → List (ℕ × ℕ) → Bool
sameb [] [] = true
sameb [] (y ∷ ys) = false
sameb (x ∷ xs) [] = false
sameb (x ∷ xs) (y ∷ ys) = eqb x.0 y.0 && (eqb x.1 y.1 && sameb xs ys)

same : (xs ys : List (ℕ × ℕ)) → sameb xs ys ≡ true → xs ≡ ys
same [] [] h = refl
same [] (y ∷ ys) h = absurd (false≢true h)
same (x ∷ xs) [] h = absurd (false≢true h)
same (x ∷ xs) (y ∷ ys) h =
    let (k, m) = and_parts (eqb x.0 y.0) (eqb x.1 y.1 && sameb xs ys) h in
    let (l, n) = and_parts (eqb x.1 y.1) (sameb xs ys) m in
    let p = eqb-true x.0 y.0 k in
    let q = eqb-true x.1 y.1 l in
    let r = same xs ys n in
    λ i. (p i, q i) ∷ r i

abbrev saidb : Tree → List ℕ → Said → Bool
saidb e w (front xs) = sameb (front_pairs e w) xs
saidb e w fits = any (acceptsb e) (front_pairs e w)
saidb e w (needs n) = needb e n (front_pairs e w)
saidb e w stuck = sameb (front_pairs e w) []

said_holds : (e : Tree) (w : List ℕ) (s : Said) → WellFormed e → NoEmptySet e → saidb e w s ≡ true → Means e w s
said_holds e w (front xs) h ne k =
    subst (λ ys. (p i : ℕ) → (Stands e w p i ↔ Listed ys p i)) (same (front_pairs e w) xs k)
    (λ p i. ((front_same e h w p i).1, (front_same e h w p i).0))
said_holds e w fits h ne k = fits_by_test e h w k
said_holds e w (needs n) h ne k = need_by_test e h ne w n k
said_holds e w stuck h ne k = stuck_by_test e h ne w (same (front_pairs e w) [] k)

-- ---- the table

exampleb : Example → Bool
exampleb x = well_formedb x.pattern && (setsb x.pattern && saidb x.pattern x.row x.said)

tableb : List Example → Bool
tableb [] = true
tableb (x ∷ xs) = exampleb x && tableb xs

each_holds : (xs : List Example) → tableb xs ≡ true → AllByRecursion (λ x. Means x.pattern x.row x.said) xs
unfolding tableb exampleb
each_holds [] h = tt
each_holds (x ∷ xs) h =
    let (k, more) = and_parts (exampleb x) (tableb xs) h in
    let (formed, m) = and_parts (well_formedb x.pattern) (setsb x.pattern && saidb x.pattern x.row x.said) k in
    let (ne, said) = and_parts (setsb x.pattern) (saidb x.pattern x.row x.said) m in
    (said_holds x.pattern x.row x.said ((decides_formed x.pattern).0 formed) (sets x.pattern ne) said, each_holds xs more)

pub examples_hold : ExamplesHold
unfolding tableb exampleb
examples_hold = each_holds table refl
