-- A text has at most one tree: two derivations of one part from one place, over texts that agree up to and with
-- the byte after the first, cover the same bytes and give the same tree.
use Rattle.std.proofs.Common.{◌≡◌, ℕ, ◌+◌, ◌-◌, ◌<◌, ◌≤◌, List, take, Option, sym, refl, ap, ◌∙◌, subst, inl, inr, arith}
use Rattle.grammar.specs.Codes.{Codes, Digit, codes_of_letter, codes_of_range, joined_codes, other_codes, codes_of}
use Rattle.grammar.specs.Ast.{Ast, class, Repetition, counted}
use Rattle.grammar.specs.Grammar.{byte, back_of, OneUnit, Body, Digits, Number, Bound, Quantifier, Pattern, Branch, Piece, Atom, letter, tile, nothing, one, range, tiles, done, digit, number, any, some, maybe, exactly, between, with_bound, last, more, none, then, once, often, one_unit, members, others, group}
use Rattle.grammar.specs.Reading.{QuantifierByte, AfterPattern, AfterBranch, AfterPiece, AfterNumber, AfterBody}
use Rattle.grammar.proofs.Texts.{same_byte}
use Rattle.grammar.proofs.Forward.{unit_on, body_on, digits_on, number_on, bound_on, quantifier_on, pattern_on, branch_on, piece_on}
use Rattle.grammar.proofs.Firsts.{unit_first, body_first, bound_first, quantifier_first, piece_first, branch_first, not_after_branch, not_bar, not_digit, not_dash, not_hat, not_closing, not_opening}

-- Equal parts give equal wholes.

join_same : {m m' n n' : Codes} {r r' : Option ℕ} → n ≡ n' → ◌≡◌ {A = Codes × Option ℕ} (m, r) (m', r') → ◌≡◌ {A = Codes × Option ℕ} (joined_codes n m, r) (joined_codes n' m', r')
join_same {m} {m'} {n} {n'} {r} {r'} q e =
    let f : Codes × Option ℕ → Codes × Option ℕ = λ p. (joined_codes n p.0, p.1) in
    let g : Codes → Codes × Option ℕ = λ k. (joined_codes k m', r') in
    ap f e ∙ ap g q

range_same : {m m' : Codes} {a a' b b' k k' : ℕ} {r r' : Option ℕ} → ◌≡◌ {A = Codes × Option ℕ} (m, r) (m', r') → a ≡ a' → b ≡ b' → k ≡ k' → ◌≡◌ {A = Codes × Option ℕ} (joined_codes (codes_of_range a b) m, back_of k a b r) (joined_codes (codes_of_range a' b') m', back_of k' a' b' r')
range_same {m} {m'} {a} {a'} {b} {b'} {k} {k'} {r} {r'} e x y z =
    let f : Codes × Option ℕ → Codes × Option ℕ = λ p. (joined_codes (codes_of_range a b) p.0, back_of k a b p.1) in
    let g : ℕ → Codes × Option ℕ = λ v. (joined_codes (codes_of_range v b) m', back_of k v b r') in
    let h : ℕ → Codes × Option ℕ = λ v. (joined_codes (codes_of_range a' v) m', back_of k a' v r') in
    let l : ℕ → Codes × Option ℕ = λ v. (joined_codes (codes_of_range a' b') m', back_of v a' b' r') in
    ap f e ∙ ap g x ∙ ap h y ∙ ap l z

pair_same : {m m' k k' : ℕ} → m ≡ m' → k ≡ k' → ◌≡◌ {A = ℕ × ℕ} (m, k) (m', k')
pair_same {m} {m'} {k} {k'} x y =
    let f : ℕ → ℕ × ℕ = λ v. (v, k) in
    let g : ℕ → ℕ × ℕ = λ v. (m', v) in
    ap f x ∙ ap g y

counted_same : {k k' : ℕ} {b b' : ℕ × ℕ} → k ≡ k' → b ≡ b' → counted k b.0 b.1 ≡ counted k' b'.0 b'.1
counted_same {k} {k'} {b} {b'} x y = ap (λ v. counted v b.0 b.1) x ∙ ap (λ v. counted k' v.0 v.1) y

class_same : {m m' : Codes} {k k' : ℕ} {r r' : Option ℕ} → k ≡ k' → ◌≡◌ {A = Codes × Option ℕ} (m, r) (m', r') → class k m r ≡ class k' m' r'
class_same {m} {m'} {k} {k'} {r} {r'} i e = let f : Codes × Option ℕ → Ast = λ p. class k p.0 p.1 in ap f e ∙ ap (λ v. class v m' r') i

others_same : (u : ℕ) {m m' : Codes} {k k' : ℕ} {r r' : Option ℕ} → k ≡ k' → ◌≡◌ {A = Codes × Option ℕ} (m, r) (m', r') → class k (other_codes (codes_of u) m) r ≡ class k' (other_codes (codes_of u) m') r'
others_same u {m} {m'} {k} {k'} {r} {r'} i e = let f : Codes × Option ℕ → Ast = λ p. class k (other_codes (codes_of u) p.0) p.1 in ap f e ∙ ap (λ v. class v (other_codes (codes_of u) m') r') i

module _ (s s' : List ℕ) (n : ℕ) (e : take n s ≡ take n s') where
  -- the bytes of the two texts at one place
  pub same : (k k' : ℕ) → k ≡ k' → k < n → byte s k ≡ byte s' k'
  same k k' x h = same_byte s s' n k e h ∙ ap (byte s') x

  pub unit_one : {u i j i' j' : ℕ} {m m' : Codes} → OneUnit u s i j m → i ≡ i' → j ≤ n → OneUnit u s' i' j' m' → (j ≡ j') × (m ≡ m')
  unit_one (letter {i = k} {c = v} a b c) i h (letter {i = k'} {c = v'} a' b' c') =
      let z = same k k' i (omega arith) in
      let w : v ≡ v' = sym b ∙ z ∙ b' in
      (omega arith, ap codes_of_letter w)
  unit_one (letter a b c) i h (tile a' b' c' d' f') = absurd (omega arith)
  unit_one (tile a b c d f) i h (letter a' b' c') = absurd (omega arith)
  unit_one (tile {i = k} {c = v} {d = x} a b c d f) i h (tile {i = k'} {c = v'} {d = x'} a' b' c' d' f') =
      let z = same k k' i (omega arith) in
      let y = same (k + 1) (k' + 1) (ap (λ q. q + 1) i) (omega arith) in
      let w : v ≡ v' = sym b ∙ z ∙ b' in
      let q : x ≡ x' = sym d ∙ y ∙ d' in
      (omega arith, cc)

  pub body_one : {u i j i' j' : ℕ} {x x' : Codes × Option ℕ} → Body u s i j x → i ≡ i' → j < n → AfterBody (byte s j) → Body u s' i' j' x' → AfterBody (byte s' j') → (j ≡ j') × (x ≡ x')
  body_one nothing i h a nothing a' = (i, refl)
  body_one (nothing {i = k}) i h a (one {i = k'} p q r t) a' = let z = same k k' i h in absurd (omega arith)
  body_one (nothing {i = k}) i h a (range {i = k'} p q r t v w y) a' = let z = same k k' i h in absurd (omega arith)
  body_one (nothing {i = k}) i h a (tiles {i = k'} p q r) a' = let z = same k k' i h in absurd (not_closing (unit_first q) (sym z ∙ a))
  body_one (one {i = k} p q r t) i h a (nothing {i = k'}) a' =
      let o = body_on t in let z = same k k' i (omega arith) in absurd (omega arith)
  body_one (one {i = k} {c = v} p q r t) i h a (one {i = k'} {c = v'} p' q' r' t') a' =
      let o = body_on t in
      let z = same k k' i (omega arith) in
      let w : v ≡ v' = sym q ∙ z ∙ q' in
      let f = body_one t (ap (λ b. b + 1) i) h a t' a' in
      (f.0, join_same (ap codes_of_letter w) f.1)
  body_one (one {i = k} p q r t) i h a (range {i = k'} p' q' r' t' v' w' y') a' =
      let o = body_on t in
      let z = same (k + 1) (k' + 1) (ap (λ b. b + 1) i) (omega arith) in
      absurd (not_dash (body_first t a) (z ∙ t'))
  body_one (one p q r t) i h a (tiles p' q' r') a' = absurd (omega arith)
  body_one (range {i = k} p q r t v w y) i h a (nothing {i = k'}) a' =
      let o = body_on y in let z = same k k' i (omega arith) in absurd (omega arith)
  body_one (range {i = k} p q r t v w y) i h a (one {i = k'} p' q' r' t') a' =
      let o = body_on y in
      let z = same (k + 1) (k' + 1) (ap (λ b. b + 1) i) (omega arith) in
      absurd (not_dash (body_first t' a') (sym z ∙ t))
  body_one (range {i = k} p q r t v w y) i h a (range {i = k'} p' q' r' t' v' w' y') a' =
      let o = body_on y in
      let z = same k k' i (omega arith) in
      let x = same (k + 2) (k' + 2) (ap (λ b. b + 2) i) (omega arith) in
      let f = body_one y (ap (λ b. b + 3) i) h a y' a' in
      (f.0, range_same f.1 (sym q ∙ z ∙ q') (sym v ∙ x ∙ v') i)
  body_one (range p q r t v w y) i h a (tiles p' q' r') a' = absurd (omega arith)
  body_one (tiles {i = k} p q r) i h a (nothing {i = k'}) a' =
      let o = body_on r in let o' = unit_on q in let z = same k k' i (omega arith) in absurd (not_closing (unit_first q) (z ∙ a'))
  body_one (tiles p q r) i h a (one p' q' r' t') a' = absurd (omega arith)
  body_one (tiles p q r) i h a (range p' q' r' t' v' w' y') a' = absurd (omega arith)
  body_one (tiles {i = k} p q r) i h a (tiles {i = k'} p' q' r') a' =
      let o = body_on r in
      let g = unit_one q i (omega arith) q' in
      let f = body_one r g.0 h a r' a' in
      (f.0, join_same g.1 f.1)

  pub digits_one : {k v i j w k' v' i' j' w' : ℕ} → Digits s k v i j w → i ≡ i' → v ≡ v' → j < n → AfterNumber (byte s j) → Digits s' k' v' i' j' w' → AfterNumber (byte s' j') → (j ≡ j') × (w ≡ w')
  digits_one done i v h a done a' = (i, v)
  digits_one (done {i = k}) i v h a (digit {i = k'} {c = c} x y z) a' =
      absurd (not_digit a (subst Digit (sym (same k k' i h ∙ x)) y))
  digits_one (digit {i = k} {c = c} x y z) i v h a (done {i = k'}) a' =
      let o = digits_on z in
      absurd (not_digit a' (subst Digit (sym x ∙ same k k' i (omega arith)) y))
  digits_one (digit {i = k} {c = c} x y z) i v h a (digit {i = k'} {c = c'} x' y' z') a' =
      let o = digits_on z in
      let w : c ≡ c' = sym x ∙ same k k' i (omega arith) ∙ x' in
      digits_one z (ap (λ b. b + 1) i) (omega arith) h a z' a'

  pub number_one : {i j w i' j' w' : ℕ} → Number s i j w → i ≡ i' → j < n → AfterNumber (byte s j) → Number s' i' j' w' → AfterNumber (byte s' j') → (j ≡ j') × (w ≡ w')
  number_one (number {i = k} {c = c} x y z) i h a (number {i = k'} {c = c'} x' y' z') a' =
      let o = digits_on z in
      let w : c ≡ c' = sym x ∙ same k k' i (omega arith) ∙ x' in
      digits_one z (ap (λ b. b + 1) i) (ap (λ b. b - 48) w) h a z' a'

  -- digits that stop at a byte that may not follow a number lead to none
  pub digits_over : {k v i j w k' v' i' j' w' : ℕ} → Digits s k v i j w → i ≡ i' → k ≡ k' → j < n → (AfterNumber (byte s j) → ⊥) → (Digit (byte s j) → j ≡ i + k) → Digits s' k' v' i' j' w' → AfterNumber (byte s' j') → ⊥
  digits_over (done {i = l}) i k h a m (done {i = l'}) a' = a (subst AfterNumber (sym (same l l' i h)) a')
  digits_over (done {i = l}) i k h a m (digit {i = l'} x' y' z') a' =
      let f = m (subst Digit (sym (same l l' i h ∙ x')) y') in omega arith
  digits_over (digit {i = l} x y z) i k h a m (done {i = l'}) a' =
      let o = digits_on z in not_digit a' (subst Digit (sym x ∙ same l l' i (omega arith)) y)
  digits_over (digit {i = l} x y z) i k h a m (digit {i = l'} x' y' z') a' =
      digits_over z (ap (λ b. b + 1) i) (omega arith) h a (λ d. omega (arith, m d)) z' a'

  pub bound_one : {i j i' j' : ℕ} {q q' : ℕ × ℕ} → Bound s i j q → i ≡ i' → j ≤ n → Bound s' i' j' q' → (j ≡ j') × (q ≡ q')
  bound_one (exactly x y z) i h (exactly x' y' z') =
      let o = number_on y in
      let f = number_one y (ap (λ b. b + 1) i) (omega arith) (inr z) y' (inr z') in
      (ap (λ b. b + 1) f.0, pair_same f.1 f.1)
  bound_one (exactly {j = l} x y z) i h (between {k = l'} x' y' z' v' w') =
      let o = number_on y in
      let f = number_one y (ap (λ b. b + 1) i) (omega arith) (inr z) y' (inl z') in
      let g = same l l' f.0 (omega arith) in
      absurd (omega arith)
  bound_one (between {k = l} x y z v w) i h (exactly {j = l'} x' y' z') =
      let o = number_on y in
      let o' = number_on v in
      let f = number_one y (ap (λ b. b + 1) i) (omega arith) (inl z) y' (inr z') in
      let g = same l l' f.0 (omega arith) in
      absurd (omega arith)
  bound_one (between x y z v w) i h (between x' y' z' v' w') =
      let o = number_on y in
      let o' = number_on v in
      let f = number_one y (ap (λ b. b + 1) i) (omega arith) (inl z) y' (inl z') in
      let g = number_one v (ap (λ b. b + 1) f.0) (omega arith) (inr w) v' (inr w') in
      (ap (λ b. b + 1) g.0, pair_same f.1 g.1)

  pub quantifier_one : {i j i' j' : ℕ} {q q' : Repetition} → Quantifier s i j q → i ≡ i' → j ≤ n → Quantifier s' i' j' q' → (j ≡ j') × (q ≡ q')
  quantifier_one (any {i = k} x) i h (any {i = k'} x') = (ap (λ b. b + 1) i, refl)
  quantifier_one (any {i = k} x) i h (some {i = k'} x') = let g = same k k' i (omega arith) in absurd (omega arith)
  quantifier_one (any {i = k} x) i h (maybe {i = k'} x') = let g = same k k' i (omega arith) in absurd (omega arith)
  quantifier_one (any {i = k} x) i h (with_bound {i = k'} x') = let f' = bound_first x' in let g = same k k' i (omega arith) in absurd (omega arith)
  quantifier_one (some {i = k} x) i h (any {i = k'} x') = let g = same k k' i (omega arith) in absurd (omega arith)
  quantifier_one (some {i = k} x) i h (some {i = k'} x') = (ap (λ b. b + 1) i, refl)
  quantifier_one (some {i = k} x) i h (maybe {i = k'} x') = let g = same k k' i (omega arith) in absurd (omega arith)
  quantifier_one (some {i = k} x) i h (with_bound {i = k'} x') = let f' = bound_first x' in let g = same k k' i (omega arith) in absurd (omega arith)
  quantifier_one (maybe {i = k} x) i h (any {i = k'} x') = let g = same k k' i (omega arith) in absurd (omega arith)
  quantifier_one (maybe {i = k} x) i h (some {i = k'} x') = let g = same k k' i (omega arith) in absurd (omega arith)
  quantifier_one (maybe {i = k} x) i h (maybe {i = k'} x') = (ap (λ b. b + 1) i, refl)
  quantifier_one (maybe {i = k} x) i h (with_bound {i = k'} x') = let f' = bound_first x' in let g = same k k' i (omega arith) in absurd (omega arith)
  quantifier_one (with_bound {i = k} x) i h (any {i = k'} x') = let o = bound_on x in let f = bound_first x in let g = same k k' i (omega arith) in absurd (omega arith)
  quantifier_one (with_bound {i = k} x) i h (some {i = k'} x') = let o = bound_on x in let f = bound_first x in let g = same k k' i (omega arith) in absurd (omega arith)
  quantifier_one (with_bound {i = k} x) i h (maybe {i = k'} x') = let o = bound_on x in let f = bound_first x in let g = same k k' i (omega arith) in absurd (omega arith)
  quantifier_one (with_bound {i = k} x) i h (with_bound {i = k'} x') = let r = bound_one x i h x' in (r.0, counted_same i r.1)

  mutual
    pub pattern_one : {u i j i' j' : ℕ} {t t' : Ast} → Pattern u s i j t → i ≡ i' → j < n → AfterPattern (byte s j) → Pattern u s' i' j' t' → AfterPattern (byte s' j') → (j ≡ j') × (t ≡ t')
    pattern_one (last b) i h a (last b') a' = branch_one b i h (inl a) b' (inl a')
    pattern_one (last {j = j} b) i h a (more {k = k'} b' x' p') a' =
        let r = branch_one b i h (inl a) b' (inr x') in
        absurd (not_bar a (same j k' r.0 h ∙ x'))
    pattern_one (more {k = k} b x p) i h a (last {j = j'} b') a' =
        let y = pattern_on p in
        let r = branch_one b i (omega arith) (inr x) b' (inl a') in
        absurd (not_bar a' (sym (same k j' r.0 (omega arith)) ∙ x))
    pattern_one (more b x p) i h a (more b' x' p') a' =
        let y = pattern_on p in
        let r = branch_one b i (omega arith) (inr x) b' (inr x') in
        let q = pattern_one p (ap (λ m. m + 1) r.0) h a p' a' in
        (q.0, cc)

    pub branch_one : {u i j i' j' : ℕ} {t t' : Ast} → Branch u s i j t → i ≡ i' → j < n → AfterBranch (byte s j) → Branch u s' i' j' t' → AfterBranch (byte s' j') → (j ≡ j') × (t ≡ t')
    branch_one none i h a none a' = (i, refl)
    branch_one (none {i = k}) i h a (then {i = k'} p' b') a' =
        absurd (not_after_branch (piece_first p') (subst AfterBranch (same k k' i h) a))
    branch_one (then {i = k} p b) i h a (none {i = k'}) a' =
        let x = piece_on p in
        let y = branch_on b in
        absurd (not_after_branch (piece_first p) (subst AfterBranch (sym (same k k' i (omega arith))) a'))
    branch_one (then p b) i h a (then p' b') a' =
        let y = branch_on b in
        let r = piece_one p i (omega arith) (branch_first b a) p' (branch_first b' a') in
        let q = branch_one b r.0 h a b' a' in
        (q.0, cc)

    pub piece_one : {u i j i' j' : ℕ} {t t' : Ast} → Piece u s i j t → i ≡ i' → j < n → AfterPiece (byte s j) → Piece u s' i' j' t' → AfterPiece (byte s' j') → (j ≡ j') × (t ≡ t')
    piece_one (once x) i h a (once x') a' = atom_one x i (omega arith) x'
    piece_one (once {j = j} x) i h a (often {k = k'} x' y') a' =
        let r = atom_one x i (omega arith) x' in
        absurd (a (subst QuantifierByte (sym (same j k' r.0 h)) (quantifier_first y')))
    piece_one (often {k = k} x y) i h a (once {j = j'} x') a' =
        let o = quantifier_on y in
        let r = atom_one x i (omega arith) x' in
        absurd (a' (subst QuantifierByte (same k j' r.0 (omega arith)) (quantifier_first y)))
    piece_one (often x y) i h a (often x' y') a' =
        let o = quantifier_on y in
        let r = atom_one x i (omega arith) x' in
        let q = quantifier_one y r.0 (omega arith) y' in
        (q.0, cc)

    pub atom_one : {u i j i' j' : ℕ} {t t' : Ast} → Atom u s i j t → i ≡ i' → j ≤ n → Atom u s' i' j' t' → (j ≡ j') × (t ≡ t')
    atom_one (one_unit x) i h (one_unit x') = let r = unit_one x i h x' in (r.0, cc)
    atom_one (one_unit {i = k} x) i h (members {i = k'} a' b' c') =
        let o = unit_on x in absurd (not_opening (unit_first x) (inl (same k k' i (omega arith) ∙ a')))
    atom_one (one_unit {i = k} x) i h (others {i = k'} a' b' c' d') =
        let o = unit_on x in absurd (not_opening (unit_first x) (inl (same k k' i (omega arith) ∙ a')))
    atom_one (one_unit {i = k} x) i h (group {i = k'} a' b' c') =
        let o = unit_on x in absurd (not_opening (unit_first x) (inr (same k k' i (omega arith) ∙ a')))
    atom_one (members {i = k} a b c) i h (one_unit {i = k'} x') =
        let o = body_on b in absurd (not_opening (unit_first x') (inl (sym (same k k' i (omega arith)) ∙ a)))
    atom_one (members a b c) i h (members a' b' c') =
        let r = body_one b (ap (λ m. m + 1) i) (omega arith) c b' c' in
        (ap (λ m. m + 1) r.0, class_same i r.1)
    atom_one (members {i = k} a b c) i h (others {i = k'} a' b' c' d') =
        let o = body_on b in
        absurd (not_hat (body_first b c) (same (k + 1) (k' + 1) (ap (λ m. m + 1) i) (omega arith) ∙ b'))
    atom_one (members {i = k} a b c) i h (group {i = k'} a' b' c') =
        let o = body_on b in let z = same k k' i (omega arith) in absurd (omega arith)
    atom_one (others {i = k} a b c d) i h (one_unit {i = k'} x') =
        let o = body_on c in absurd (not_opening (unit_first x') (inl (sym (same k k' i (omega arith)) ∙ a)))
    atom_one (others {i = k} a b c d) i h (members {i = k'} a' b' c') =
        let o = body_on c in
        absurd (not_hat (body_first b' c') (sym (same (k + 1) (k' + 1) (ap (λ m. m + 1) i) (omega arith)) ∙ b))
    atom_one {u} (others a b c d) i h (others a' b' c' d') =
        let r = body_one c (ap (λ m. m + 2) i) (omega arith) d c' d' in
        (ap (λ m. m + 1) r.0, others_same u i r.1)
    atom_one (others {i = k} a b c d) i h (group {i = k'} a' b' c') =
        let o = body_on c in let z = same k k' i (omega arith) in absurd (omega arith)
    atom_one (group {i = k} a b c) i h (one_unit {i = k'} x') =
        let o = pattern_on b in absurd (not_opening (unit_first x') (inr (sym (same k k' i (omega arith)) ∙ a)))
    atom_one (group {i = k} a b c) i h (members {i = k'} a' b' c') =
        let o = pattern_on b in let z = same k k' i (omega arith) in absurd (omega arith)
    atom_one (group {i = k} a b c) i h (others {i = k'} a' b' c' d') =
        let o = pattern_on b in let z = same k k' i (omega arith) in absurd (omega arith)
    atom_one (group a b c) i h (group a' b' c') =
        let r = pattern_one b (ap (λ m. m + 1) i) (omega arith) (inr c) b' (inr c') in
        (ap (λ m. m + 1) r.0, r.1)
