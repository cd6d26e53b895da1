-- What the units and classes of a pattern spell: only codes of the alphabet, and a unit some code.
use Rattle.std.proofs.lemmas.Float.{T_from_true}
use Rattle.std.proofs.Common.{◌≡◌, ℕ, zero, suc, ◌+◌, ◌-◌, ◌*◌, ◌/◌, ◌%◌, ◌<◌, ◌≤◌, Bool, true, false, not, T, eqb, ltb, ◌⊎◌, List, Option, refl, ap, ◌∙◌, inl, inr, arith}
use Rattle.std.proofs.lemmas.Bool.{and_parts, or_cases, ltb-true, eq-eqb, ne_eqb, cases_eq, cases_lt, cond-true, cond-false, false≢true}
use Rattle.std.proofs.lemmas.Bool.Decides.{nat_tests}
use Rattle.automata.specs.Language.{Tree, NoEmptySet}
use Rattle.grammar.specs.Codes.{Codes, Letter, LetterUnit, colour_of, codes_of, codes_of_letter, codes_of_tile, codes_of_range, other_codes}
use Rattle.grammar.specs.Ast.{Ast, Repetition, star, plus, opt, counted}
use Rattle.grammar.specs.Grammar.{OneUnit, Body, Pattern, Branch, Piece, Atom, letter, tile, nothing, one, range, tiles, last, more, none, then, once, often, one_unit, members, others, group}
use Rattle.checks.specs.Faults.{EmptyAt, Nowhere}
use Rattle.syntax.specs.TextLanguage.{tree_of, repeated, CodesBelow}

is_true : (b : Bool) → T b → b ≡ true
is_true true h = refl
is_true false h = absurd h

letters : (u : ℕ) → u ≡ 1 → codes_of u ≡ 26
letters u e = cond-true (eqb u 1) 26 40 (eq-eqb u 1 e)

tilings : (u : ℕ) → u ≡ 2 → codes_of u ≡ 40
tilings u e = cond-false (eqb u 1) 26 40 (ne_eqb u 1 (λ x. omega arith))

letter_below : (c k : ℕ) → LetterUnit c → codes_of_letter c k ≡ true → k < 26
unfolding codes_of_letter
letter_below c k (inl e) h = grind (arith, nat_tests)
letter_below c k (inr l) h = grind (arith, nat_tests, l.0, l.1)

range_below : (b k a : ℕ) → Letter b → codes_of_range a b k ≡ true → k < 26
unfolding codes_of_range
range_below b k a l h = grind (arith, nat_tests, l.0, l.1)

tile_below : (c d k : ℕ) → codes_of_tile c d k ≡ true → k < 40
unfolding codes_of_tile
tile_below c d k h = ltb-true k 40 (and_parts (ltb k 40) _ h).0

-- a unit spells only codes of the alphabet
unit_below : {u : ℕ} {s : List ℕ} {i j : ℕ} {m : Codes} → OneUnit u s i j m → (k : ℕ) → m k ≡ true → k < codes_of u
unit_below {u} (letter {c = c} a b l) k h = omega (arith, letters u a, letter_below c k l h)
unit_below {u} (tile {c = c} {d = d} a b l e f) k h = omega (arith, tilings u a, tile_below c d k h)

body_below : {u : ℕ} {s : List ℕ} {i j : ℕ} {x : Codes × Option ℕ} → Body u s i j x → (k : ℕ) → x.0 k ≡ true → k < codes_of u
body_below nothing k h = absurd (false≢true h)
body_below {u} (one {c = c} {m = m} a b l d) k h =
    elim (or_cases (codes_of_letter c k) (m k) h) [ inl x ↦ omega (arith, letters u a, letter_below c k (inr l) x) | inr x ↦ body_below d k x ]
body_below {u} (range {a = f} {b = g} {m = m} a b l d e w r) k h =
    elim (or_cases (codes_of_range f g k) (m k) h) [ inl x ↦ omega (arith, letters u a, range_below g k f w x) | inr x ↦ body_below r k x ]
body_below (tiles {n = n} {m = m} a b d) k h = elim (or_cases (n k) (m k) h) [ inl x ↦ unit_below b k x | inr x ↦ body_below d k x ]

times_below : (n : ℕ) (q : Repetition) (a : Tree) → CodesBelow n a → CodesBelow n (repeated q a)
times_below n star a h = h
times_below n plus a h = h
times_below n opt a h = h
times_below n (counted at low high) a h = h

mutual
  pub pattern_below : {u : ℕ} {s : List ℕ} {i j : ℕ} {t : Ast} → Pattern u s i j t → CodesBelow (codes_of u) (tree_of t)
  pattern_below (last b) = branch_below b
  pattern_below (more b e p) = (branch_below b, pattern_below p)

  branch_below : {u : ℕ} {s : List ℕ} {i j : ℕ} {t : Ast} → Branch u s i j t → CodesBelow (codes_of u) (tree_of t)
  branch_below none = tt
  branch_below (then p b) = (piece_below p, branch_below b)

  piece_below : {u : ℕ} {s : List ℕ} {i j : ℕ} {t : Ast} → Piece u s i j t → CodesBelow (codes_of u) (tree_of t)
  piece_below (once a) = atom_below a
  piece_below {u} (often {t = t} {q = q} a m) = times_below (codes_of u) q (tree_of t) (atom_below a)

  atom_below : {u : ℕ} {s : List ℕ} {i j : ℕ} {t : Ast} → Atom u s i j t → CodesBelow (codes_of u) (tree_of t)
  atom_below (one_unit {m = m} a) = λ k h. unit_below a k (is_true (m k) h)
  atom_below (members {m = m} a b c) = λ k h. body_below b k (is_true (m k) h)
  atom_below {u} (others {m = m} a b c d) = λ k h. ltb-true k (codes_of u) (and_parts (ltb k (codes_of u)) (not (m k)) (is_true (other_codes (codes_of u) m k) h)).0
  atom_below (group a p b) = pattern_below p

-- a unit spells some code: a letter its own and `.` the first; a tile the one of its colour and its face, for which `.` has 0
colour_below : (c : ℕ) → colour_of c < 4
unfolding colour_of
colour_below c = grind (arith, nat_tests)

tile_code_told : (c d w : ℕ) → w < 10 → (d ≡ 46) ⊎ (w ≡ d - 48) → codes_of_tile c d (10 * colour_of c + w) ≡ true
unfolding codes_of_tile
tile_code_told c d w l e =
    let v = colour_below c in
    let x : (10 * colour_of c + w) / 10 ≡ colour_of c = omega arith in
    let y : (10 * colour_of c + w) % 10 ≡ w = omega arith in
    grind (arith, nat_tests)

unit_spells : {u : ℕ} {s : List ℕ} {i j : ℕ} {m : Codes} → OneUnit u s i j m → (c : ℕ) × T (m c)
unfolding codes_of_letter
unit_spells (letter {c = c} a b (inl e)) = (0, T_from_true _ (grind (arith, nat_tests)))
unit_spells (letter {c = c} a b (inr l)) = (c - 97, T_from_true _ (grind (arith, nat_tests, l.0, l.1)))
unit_spells (tile {c = c} {d = d} a b l e (inl f)) = (10 * colour_of c + 0, T_from_true _ (tile_code_told c d 0 (omega arith) (inl f)))
unit_spells (tile {c = c} {d = d} a b l e (inr f)) = (10 * colour_of c + (d - 48), T_from_true _ (tile_code_told c d (d - 48) (omega (arith, f.0, f.1)) (inr refl)))

-- a set of codes below n has a code, or none below n
here : (S : ℕ → Bool) (n : ℕ) → ((k : ℕ) → k < n → S k ≡ false) → (b : Bool) → S n ≡ b → ((c : ℕ) × T (S c)) ⊎ ((k : ℕ) → k < suc n → S k ≡ false)
here S n f true e = inl (n, T_from_true (S n) e)
here S n f false e = inr (λ k l. elim (cases_eq k n) [ inl x ↦ ap S x ∙ e | inr x ↦ f k (omega arith) ])

some_code : (S : ℕ → Bool) (n : ℕ) → ((c : ℕ) × T (S c)) ⊎ ((k : ℕ) → k < n → S k ≡ false)
some_code S zero = inr (λ k l. absurd (omega arith))
some_code S (suc n) = elim (some_code S n) [ inl x ↦ inl x | inr f ↦ here S n f (S n) refl ]

none_past : (S : ℕ → Bool) (n k : ℕ) → ((k : ℕ) → T (S k) → k < n) → n ≤ k → (b : Bool) → S k ≡ b → S k ≡ false
none_past S n k h l true e = absurd (omega (arith, h k (T_from_true (S k) e)))
none_past S n k h l false e = e

-- a set that is not empty has a code
set_spells : (S : ℕ → Bool) (n : ℕ) → ((k : ℕ) → T (S k) → k < n) → (((k : ℕ) → S k ≡ false) → ⊥) → (c : ℕ) × T (S c)
set_spells S n h f = elim (some_code S n) [ inl x ↦ x | inr g ↦ absurd (f (λ k. elim (cases_lt k n) [ inl l ↦ g k l | inr l ↦ none_past S n k h l (S k) refl ])) ]

times_spelled : (q : Repetition) (a : Tree) → NoEmptySet a → NoEmptySet (repeated q a)
times_spelled star a h = h
times_spelled plus a h = h
times_spelled opt a h = h
times_spelled (counted at low high) a h = h

-- a pattern with no empty class has no empty set
mutual
  pub pattern_spelled : {u : ℕ} {s : List ℕ} {i j : ℕ} {t : Ast} → Pattern u s i j t → Nowhere (EmptyAt t) → NoEmptySet (tree_of t)
  pattern_spelled (last b) h = branch_spelled b h
  pattern_spelled (more b e p) h = (branch_spelled b (λ k x. h k (inl x)), pattern_spelled p (λ k x. h k (inr x)))

  branch_spelled : {u : ℕ} {s : List ℕ} {i j : ℕ} {t : Ast} → Branch u s i j t → Nowhere (EmptyAt t) → NoEmptySet (tree_of t)
  branch_spelled none h = tt
  branch_spelled (then p b) h = (piece_spelled p (λ k x. h k (inl x)), branch_spelled b (λ k x. h k (inr x)))

  piece_spelled : {u : ℕ} {s : List ℕ} {i j : ℕ} {t : Ast} → Piece u s i j t → Nowhere (EmptyAt t) → NoEmptySet (tree_of t)
  piece_spelled (once a) h = atom_spelled a h
  piece_spelled (often {t = t} {q = q} a m) h = times_spelled q (tree_of t) (atom_spelled a h)

  atom_spelled : {u : ℕ} {s : List ℕ} {i j : ℕ} {t : Ast} → Atom u s i j t → Nowhere (EmptyAt t) → NoEmptySet (tree_of t)
  atom_spelled (one_unit a) h = unit_spells a
  atom_spelled {u} (members {i = i} {m = m} a b c) h = set_spells m (codes_of u) (λ k x. body_below b k (is_true (m k) x)) (λ f. h i (refl, f))
  atom_spelled {u} (others {i = i} {m = m} a b c d) h = set_spells (other_codes (codes_of u) m) (codes_of u) (atom_below (others a b c d)) (λ f. h i (refl, f))
  atom_spelled (group a p b) h = pattern_spelled p h
