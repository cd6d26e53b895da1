-- What a counted repeat reads, where its body has no counted repeat and reads the rows of its language.
use Rattle.std.proofs.Common.{◌≡◌, ℕ, zero, suc, ◌+◌, ◌-◌, ◌<◌, ◌≤◌, T, eqb, ◌⊎◌, List, [], ◌∷◌, ◌++◌, sym, refl, subst, inl, inr, arith, eqb→eq}
use Rattle.automata.specs.Language.{Tree, rep, Power, In, Flat}
use Rattle.automata.specs.Places.{nullable, First, Last}
use Rattle.automata.specs.Links.{Meet}
use Rattle.automata.proofs.Powers.{T_or, or_T, power_empty}
use Rattle.automata.proofs.Runs.{Tail, Runs, Split, Cut, split_more, split_cut}
use Rattle.automata.proofs.Parts.{body_takes, body_meets, body_leaves, takes_next, takes_rep⁻, leaves_rep, leaves_rep⁻}

-- The count m is enough to leave the repeat.
abbrev Enough : Tree → ℕ → ℕ → Type 0
Enough a lo m = T (nullable a) ⊎ (lo ≤ m)

enough_from : (a : Tree) (lo m n : ℕ) → m ≤ n → Enough a lo m → Enough a lo n
enough_from a lo m n l (inl h) = inl h
enough_from a lo m n l (inr h) = inr (omega arith)

zero_test : (n : ℕ) → n ≤ 0 → T (eqb n 0)
zero_test zero h = tt
zero_test (suc n) h = absurd (omega arith)

module _ (lo hi : ℕ) (a : Tree) (o : ℕ) (flat : Flat a) where
  -- the rest of a pass at count i, and then what follows from any last
  pass_on :
      (y : List ℕ) (i : ℕ) → ((p : ℕ) → Last a o p → Tail (rep lo hi a) o p i y)
      → (x : List ℕ) (p j : ℕ) → Tail a o p j x → Tail (rep lo hi a) o p i (x ++ y)
  pass_on y i more [] p j t = more p t.0
  pass_on y i more (s ∷ x) p j (q, k, l, h, t) = (q, i, inl (body_meets a o p j q k flat l, refl), h, pass_on y i more x q k t)

  module _ (body : (w : List ℕ) → In a w → Runs a o w) where
    -- from a last at count i, n more passes
    rep_on :
        (n : ℕ) (v : List ℕ) → Power (In a) n v → (p i : ℕ) → Last a o p → i + n ≤ hi → Enough a lo (i + n) → Tail (rep lo hi a) o p i v
    rep_on zero v h p i l m c =
        subst (λ x. Tail (rep lo hi a) o p i x) (sym h) (leaves_rep lo hi a o p i l (enough_from a lo (i + 0) i (omega arith) c))
    rep_on (suc n) v (x, y, e, h, k) p i l m c = subst (λ z. Tail (rep lo hi a) o p i z) (sym e) (go (rep_on n y k) x (body x h))
      where
        go :
            ((p i : ℕ) → Last a o p → i + n ≤ hi → Enough a lo (i + n) → Tail (rep lo hi a) o p i y)
            → (x : List ℕ) → Runs a o x → Tail (rep lo hi a) o p i (x ++ y)
        go more [] h = more p i l (omega arith) (inl h)
        go more (s ∷ x) (q, f, h, t) =
            let c' = enough_from a lo (i + suc n) (suc i + n) (omega arith) c in (
              q,
              suc i,
              takes_next lo hi a o p i q l f (omega arith),
              h,
              pass_on y (suc i) (λ p l. more p (suc i) l (omega arith) c') x q 1 t,
            )

    pub rep_runs : (n : ℕ) (v : List ℕ) → Power (In a) n v → n ≤ hi → Enough a lo n → Runs (rep lo hi a) o v
    rep_runs zero v h m c = subst (λ x. Runs (rep lo hi a) o x) (sym h) (T_or (eqb lo 0) (nullable a) (go c))
      where
        go : Enough a lo 0 → T (eqb lo 0) ⊎ T (nullable a)
        go (inl h) = inr h
        go (inr h) = inl (zero_test lo h)
    rep_runs (suc n) v (x, y, e, h, k) m c = subst (λ z. Runs (rep lo hi a) o z) (sym e) (go (rep_runs n y k) x (body x h))
      where
        go : (n ≤ hi → Enough a lo n → Runs (rep lo hi a) o y) → (x : List ℕ) → Runs a o x → Runs (rep lo hi a) o (x ++ y)
        go more [] h = more (omega arith) (inl h)
        go more (s ∷ x) (q, f, h, t) =
            let c' = enough_from a lo (suc n) (1 + n) (omega arith) c in
            (q, f, h, pass_on y 1 (λ p l. rep_on n y k p 1 l (omega arith) c') x q 1 t)

  module _ (order : lo ≤ hi) (body : (w : List ℕ) → Runs a o w → In a w) where
    -- passes that bring the count from i into the bounds
    abbrev Passes : ℕ → List ℕ → Type 0
    Passes i v = (n : ℕ) × (lo ≤ i + n) × (i + n ≤ hi) × Power (In a) n v

    pass_more : (i : ℕ) (w : List ℕ) → Cut a o (Passes (suc i)) w → Passes i w
    pass_more i w (u, v, e, r, (n, l, m, k)) = (suc n, omega arith, omega arith, (u, v, e, body u r, k))

    -- a way out that rests on a nullable body has hi - i empty passes to spend
    passes_out : (i : ℕ) → i ≤ hi → Enough a lo i → Passes i []
    passes_out i m (inl h) = (hi - i, omega arith, omega arith, power_empty (In a) (body [] h) (hi - i))
    passes_out i m (inr h) = (0, omega arith, omega arith, refl)

    rep_tail⁻ : (w : List ℕ) (p i : ℕ) → i ≤ hi → Tail (rep lo hi a) o p i w → Split a o (Passes i) p 1 w
    rep_tail⁻ [] p i m t = ([], [], refl, body_leaves a o p flat t.0, passes_out i m (leaves_rep⁻ lo hi a o p i t))
    rep_tail⁻ (s ∷ w) p i m (q, j, l, h, t) = go (takes_rep⁻ lo hi a o p i q j flat l) (λ m'. rep_tail⁻ w q j m' t)
      where
        go :
            (Meet a o p q × (j ≡ i)) ⊎ (Last a o p × First a o q × (i < hi) × (j ≡ suc i))
            → (j ≤ hi → Split a o (Passes j) q 1 w) → Split a o (Passes i) p 1 (s ∷ w)
        go (inl (k, e)) more =
            split_more a o (Passes i) p 1 q 1 s w (body_takes a o p q flat k) h
            (subst (λ x. Split a o (Passes x) q 1 w) e (more (omega arith)))
        go (inr (k, f, b, e)) more =
            let c = split_cut a o (Passes (suc i)) q s w f h (subst (λ x. Split a o (Passes x) q 1 w) e (more (omega arith))) in
            ([], s ∷ w, refl, body_leaves a o p flat k, pass_more i (s ∷ w) c)

    pub runs_rep : 1 ≤ hi → (w : List ℕ) → Runs (rep lo hi a) o w → In (rep lo hi a) w
    runs_rep one [] h =
        elim (or_T (eqb lo 0) (nullable a) h) [
          | inl k ↦ (0, omega (arith, eqb→eq lo 0 k), omega arith, refl)
          | inr k ↦ (hi, order, omega arith, power_empty (In a) (body [] k) hi)
        ]
    runs_rep one (s ∷ w) (q, f, h, t) =
        let (n, l, m, k) = pass_more 0 (s ∷ w) (split_cut a o (Passes 1) q s w f h (rep_tail⁻ w q 1 one t)) in
        (n, omega arith, omega arith, k)
