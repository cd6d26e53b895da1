-- The widths of the places, added up along the tree.
use Rattle.std.proofs.Common.{◌≡◌, ℕ, zero, suc, ◌+◌, ◌<◌, ◌≤◌, ltb, leb, sym, refl, ap, ◌∙◌, add-zero, add-suc, arith}
use Rattle.std.proofs.lemmas.Bool.{cond-true, cond-false, le-leb, lt-leb, le-ltb, lt-ltb, and_left, and_from}
use Rattle.automata.specs.Places.{size, width}
use Rattle.grammar.specs.Ast.{Ast, empty, leaf, class, cat, alt, repeat, star, plus, opt, counted}
use Rattle.syntax.specs.TextLanguage.{tree_of}
use Rattle.checks.specs.Widths.{sum_behind, widths_of, widths_at, widths_in}

sum_same : (f g : ℕ → ℕ) (o n : ℕ) → ((k : ℕ) → o < k → k ≤ o + n → f k ≡ g k) → sum_behind f o n ≡ sum_behind g o n
sum_same f g o zero h = refl
sum_same f g o (suc n) h =
    let x = sum_same f g o n (λ k l m. h k l (omega arith)) in
    let y = h (o + suc n) (omega arith) (omega arith) in
    cc

sum_split : (f : ℕ → ℕ) (o m n : ℕ) → sum_behind f o (m + n) ≡ sum_behind f o m + sum_behind f (o + m) n
sum_split f o m zero = ap (λ k. sum_behind f o k) (add-zero m) ∙ sym (add-zero (sum_behind f o m))
sum_split f o m (suc n) =
    let x : sum_behind f o (m + suc n) ≡ sum_behind f o (m + n) + f (o + suc (m + n)) = ap (λ k. sum_behind f o k) (add-suc m n) in
    let y : f (o + suc (m + n)) ≡ f (o + m + suc n) = ap f (omega arith) in
    omega (arith, x, y, sum_split f o m n)

-- the sum over two parts, one after the other
sum_parts : (f g h : ℕ → ℕ) (o m n x y : ℕ) → ((k : ℕ) → k ≤ o + m → f k ≡ g k) → ((k : ℕ) → o + m < k → f k ≡ h k) → sum_behind g o m ≡ x → sum_behind h (o + m) n ≡ y → sum_behind f o (m + n) ≡ x + y
sum_parts f g h o m n x y a b c d =
    let p = sum_split f o m n in
    let q = sum_same f g o m (λ k l r. a k r) in
    let s = sum_same f h (o + m) n (λ k l r. b k l) in
    omega (arith, p, q, s)

-- where each place takes w
sum_at : (w : ℕ) (t : Ast) (o : ℕ) → sum_behind (λ k. w) o (size (tree_of t)) ≡ widths_at w t
sum_at w empty o = refl
sum_at w (leaf i m) o = omega arith
sum_at w (class i m r) o = omega arith
sum_at w (cat a b) o = sum_parts (λ k. w) (λ k. w) (λ k. w) o (size (tree_of a)) (size (tree_of b)) _ _ (λ k l. refl) (λ k l. refl) (sum_at w a o) (sum_at w b (o + size (tree_of a)))
sum_at w (alt a b) o = sum_parts (λ k. w) (λ k. w) (λ k. w) o (size (tree_of a)) (size (tree_of b)) _ _ (λ k l. refl) (λ k l. refl) (sum_at w a o) (sum_at w b (o + size (tree_of a)))
sum_at w (repeat star a) o = sum_at w a o
sum_at w (repeat plus a) o = sum_at w a o
sum_at w (repeat opt a) o = sum_at w a o
sum_at w (repeat (counted at low high) a) o = sum_at w a o

-- where each takes its width
sum_in : (t : Ast) (o : ℕ) → sum_behind (width (tree_of t) o) o (size (tree_of t)) ≡ widths_in t
sum_in empty o = refl
sum_in (leaf i m) o = refl
sum_in (class i m r) o = refl
sum_in (cat a b) o =
    let n = size (tree_of a) in
    sum_parts (width (tree_of (cat a b)) o) (width (tree_of a) o) (width (tree_of b) (o + n)) o n (size (tree_of b)) _ _ (λ k l. cond-true (leb k (o + n)) _ _ (le-leb k (o + n) l)) (λ k l. cond-false (leb k (o + n)) _ _ (lt-leb k (o + n) l)) (sum_in a o) (sum_in b (o + n))
sum_in (alt a b) o =
    let n = size (tree_of a) in
    sum_parts (width (tree_of (alt a b)) o) (width (tree_of a) o) (width (tree_of b) (o + n)) o n (size (tree_of b)) _ _ (λ k l. cond-true (leb k (o + n)) _ _ (le-leb k (o + n) l)) (λ k l. cond-false (leb k (o + n)) _ _ (lt-leb k (o + n) l)) (sum_in a o) (sum_in b (o + n))
sum_in (repeat star a) o = sum_in a o
sum_in (repeat plus a) o = sum_in a o
sum_in (repeat opt a) o = sum_in a o
sum_in (repeat (counted at low high) a) o =
    sum_same (width (tree_of (repeat (counted at low high) a)) o) (λ k. high) o (size (tree_of a)) (λ k l m. cond-true _ _ _ (and_from _ _ (lt-ltb o k l) (le-leb k (o + size (tree_of a)) m))) ∙ sum_at high a o

-- a number that is no place of the part has width 1
width_before : (t : Ast) (o p : ℕ) → p ≤ o → width (tree_of t) o p ≡ 1
width_before empty o p h = refl
width_before (leaf i m) o p h = refl
width_before (class i m r) o p h = refl
width_before (cat a b) o p h = cond-true (leb p (o + size (tree_of a))) _ _ (le-leb p (o + size (tree_of a)) (omega arith)) ∙ width_before a o p h
width_before (alt a b) o p h = cond-true (leb p (o + size (tree_of a))) _ _ (le-leb p (o + size (tree_of a)) (omega arith)) ∙ width_before a o p h
width_before (repeat star a) o p h = width_before a o p h
width_before (repeat plus a) o p h = width_before a o p h
width_before (repeat opt a) o p h = width_before a o p h
width_before (repeat (counted at low high) a) o p h = cond-false _ _ _ (and_left (ltb o p) (leb p (o + size (tree_of a))) (le-ltb o p h))

pub widths_sum : (t : Ast) → widths_of (tree_of t) ≡ 1 + widths_in t
widths_sum t = omega (arith, width_before t 0 0 (omega arith), sum_in t 0)
