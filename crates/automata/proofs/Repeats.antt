-- What `*`, `+` and `?` read, where their body reads the rows of its language.
use Rattle.std.proofs.Common.{◌≡◌, ℕ, zero, suc, ◌≤◌, ◌⊎◌, List, [], ◌∷◌, ◌++◌, sym, refl, subst, inl, inr, arith}
use mathlib.Core.List.{cons≢nil}
use Rattle.automata.specs.Language.{Tree, star, plus, opt, Power, In}
use Rattle.automata.specs.Places.{First}
use Rattle.automata.specs.Links.{Takes}
use Rattle.automata.proofs.Powers.{power_one, one_power, empty_power}
use Rattle.automata.proofs.Runs.{Leaves, Tail, Runs, Split, Cut, split_more, split_cut, tail_on}
use Rattle.automata.proofs.Parts.{takes_star, takes_again, takes_star⁻}

-- Every row of the body's language is a run of the body.
module _ (a : Tree) (o : ℕ) (body : (w : List ℕ) → In a w → Runs a o w) where
  -- from where the body can be left, n more passes
  star_on : (n : ℕ) (v : List ℕ) → Power (In a) n v → (p i : ℕ) → Leaves a o p i → Tail (star a) o p i v
  star_on zero v h p i l = subst (λ x. Tail (star a) o p i x) (sym h) l
  star_on (suc n) v (x, y, e, h, k) p i l = subst (λ z. Tail (star a) o p i z) (sym e) (go (star_on n y k) x (body x h))
    where
      go : ((p i : ℕ) → Leaves a o p i → Tail (star a) o p i y) → (x : List ℕ) → Runs a o x → Tail (star a) o p i (x ++ y)
      go more [] h = more p i l
      go more (s ∷ x) (q, f, h, t) =
          (q, 1, takes_again a o p i q l f, h, tail_on a (star a) o (takes_star a o) (λ q s h. h) y more x q 1 t)

  pub star_runs : (n : ℕ) (v : List ℕ) → Power (In a) n v → Runs (star a) o v
  star_runs zero v h = subst (λ x. Runs (star a) o x) (sym h) tt
  star_runs (suc n) v (x, y, e, h, k) = subst (λ z. Runs (star a) o z) (sym e) (go (star_runs n y k) x (body x h))
    where
      go : Runs (star a) o y → (x : List ℕ) → Runs a o x → Runs (star a) o (x ++ y)
      go more [] h = more
      go more (s ∷ x) (q, f, h, t) = (q, f, h, tail_on a (star a) o (takes_star a o) (λ q s h. h) y (star_on n y k) x q 1 t)

  -- `+` differs from `*` at the empty row alone
  pub plus_runs : (n : ℕ) (v : List ℕ) → 1 ≤ n → Power (In a) n v → Runs (plus a) o v
  plus_runs n [] l h = body [] (empty_power (In a) n l h)
  plus_runs n (s ∷ v) l h = star_runs n (s ∷ v) h

  pub opt_runs : (n : ℕ) (v : List ℕ) → n ≤ 1 → Power (In a) n v → Runs (opt a) o v
  opt_runs n [] l h = tt
  opt_runs zero (s ∷ v) l h = absurd (cons≢nil h)
  opt_runs (suc zero) (s ∷ v) l h = body (s ∷ v) (one_power (In a) (s ∷ v) h)
  opt_runs (suc (suc n)) (s ∷ v) l h = absurd (omega arith)

-- Every run of the body is a row of its language.
module _ (a : Tree) (o : ℕ) (body : (w : List ℕ) → Runs a o w → In a w) where
  pass_more : (w : List ℕ) → Cut a o (In (star a)) w → (n : ℕ) × Power (In a) (suc n) w
  pass_more w (u, v, e, r, (n, k)) = (n, (u, v, e, body u r, k))

  star_tail⁻ : (w : List ℕ) (p i : ℕ) → Tail (star a) o p i w → Split a o (In (star a)) p i w
  star_tail⁻ [] p i t = ([], [], refl, t, (0, refl))
  star_tail⁻ (s ∷ w) p i (q, j, l, h, t) = go (takes_star⁻ a o p i q j l) (star_tail⁻ w q j t)
    where
      go :
          Takes a o p i q j ⊎ (Leaves a o p i × First a o q × (j ≡ 1)) → Split a o (In (star a)) q j w
          → Split a o (In (star a)) p i (s ∷ w)
      go (inl k) more = split_more a o (In (star a)) p i q j s w k h more
      go (inr (k, f, e)) more =
          let m = pass_more (s ∷ w) (split_cut a o (In (star a)) q s w f h (subst (λ x. Split a o (In (star a)) q x w) e more)) in
          ([], s ∷ w, refl, k, (suc m.0, m.1))

  star_cut : (s : ℕ) (w : List ℕ) → Runs (star a) o (s ∷ w) → (n : ℕ) × Power (In a) (suc n) (s ∷ w)
  star_cut s w (q, f, h, t) = pass_more (s ∷ w) (split_cut a o (In (star a)) q s w f h (star_tail⁻ w q 1 t))

  pub runs_star : (w : List ℕ) → Runs (star a) o w → In (star a) w
  runs_star [] h = (0, refl)
  runs_star (s ∷ w) h = let m = star_cut s w h in (suc m.0, m.1)

  pub runs_plus : (w : List ℕ) → Runs (plus a) o w → In (plus a) w
  runs_plus [] h = (1, omega arith, power_one (In a) [] (body [] h))
  runs_plus (s ∷ w) h = let m = star_cut s w h in (suc m.0, omega arith, m.1)

  pub runs_opt : (w : List ℕ) → Runs (opt a) o w → In (opt a) w
  runs_opt [] h = (0, omega arith, refl)
  runs_opt (s ∷ w) h = (1, omega arith, power_one (In a) (s ∷ w) (body (s ∷ w) h))
