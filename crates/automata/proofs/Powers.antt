-- Facts about tests, lists and powers of a language that several arguments share.
use Rattle.std.proofs.Common.{◌≡◌, ℕ, zero, suc, ◌≤◌, Bool, true, false, ◌&&◌, ◌||◌, T, ◌⊎◌, List, [], ◌∷◌, ◌++◌, Decides, sym, refl, ap, ◌∙◌, subst, inl, inr, append_assoc, append-nil, arith}
use mathlib.Core.Bool.{false≢true}
use mathlib.Core.List.{cons≢nil}
use Rattle.automata.specs.Language.{Power}

-- ---- tests

pub decides_T : (b : Bool) → Decides b (T b)
decides_T true = (λ _. tt, λ _. refl)
decides_T false = (λ e. absurd (false≢true e), λ t. absurd t)

pub T_and : (x y : Bool) → T x → T y → T (x && y)
T_and true y h k = k
T_and false y h k = h

pub and_T : (x y : Bool) → T (x && y) → T x × T y
and_T true y h = (tt, h)
and_T false y h = absurd h

pub T_or : (x y : Bool) → T x ⊎ T y → T (x || y)
T_or true y h = tt
T_or false y (inl h) = absurd h
T_or false y (inr h) = h

pub or_T : (x y : Bool) → T (x || y) → T x ⊎ T y
or_T true y h = inl tt
or_T false y h = inr h

-- ---- lists

pub heads : {x y : ℕ} {xs ys : List ℕ} → x ∷ xs ≡ y ∷ ys → x ≡ y
heads e = cc

pub tails : {x y : ℕ} {xs ys : List ℕ} → x ∷ xs ≡ y ∷ ys → xs ≡ ys
tails e = cc

pub empty_halves : (u v : List ℕ) → u ++ v ≡ [] → (u ≡ []) × (v ≡ [])
empty_halves [] v e = (refl, e)
empty_halves (x ∷ u) v e = absurd (cons≢nil e)

pub no_last : (w : List ℕ) (p : ℕ) → w ++ (p ∷ []) ≡ [] → ⊥
no_last [] p e = cons≢nil e
no_last (x ∷ w) p e = cons≢nil e

-- Where two joined lists end in p, the second does, or it is empty and the first does.
pub last_cases : (u v w : List ℕ) (p : ℕ) → u ++ v ≡ w ++ (p ∷ []) → ((v ≡ []) × (u ≡ w ++ (p ∷ []))) ⊎ ((z : List ℕ) × (v ≡ z ++ (p ∷ [])))
last_cases [] v w p e = inr (w, e)
last_cases (c ∷ u) v [] p e =
    let h = empty_halves u v (tails e) in
    inl (h.1, ap (λ x. c ∷ x) h.0 ∙ ap (λ x. x ∷ []) (heads e))
last_cases (c ∷ u) v (d ∷ w) p e =
    elim (last_cases u v w p (tails e)) [
      | inl h ↦ inl (h.0, ap (λ x. c ∷ x) h.1 ∙ ap (λ x. x ∷ (w ++ (p ∷ []))) (heads e))
      | inr h ↦ inr h
    ]

-- ---- powers of a language

module _ (L : List ℕ → Type 0) where
  pub power_one : (u : List ℕ) → L u → Power L 1 u
  power_one u h = (u, [], sym (append-nil u), h, refl)

  pub one_power : (v : List ℕ) → Power L 1 v → L v
  one_power v (x, y, e, h, k) = subst L (sym (e ∙ (ap (λ z. x ++ z) k ∙ append-nil x))) h

  pub power_empty : L [] → (n : ℕ) → Power L n []
  power_empty h zero = refl
  power_empty h (suc n) = ([], [], refl, h, power_empty h n)

  pub empty_power : (n : ℕ) → 1 ≤ n → Power L n [] → L []
  empty_power zero l h = absurd (omega arith)
  empty_power (suc n) l (x, y, e, h, k) = subst L (empty_halves x y (sym e)).0 h

  -- n rows that are all the same
  pub power_same : (u : List ℕ) → L u → (n : ℕ) → (w : List ℕ) × Power L n w
  power_same u h zero = ([], refl)
  power_same u h (suc n) = let r = power_same u h n in (u ++ r.0, (u, r.0, refl, h, r.1))

  -- one more row at the end
  pub power_push : (n : ℕ) (u v : List ℕ) → Power L n u → L v → Power L (suc n) (u ++ v)
  power_push zero u v h k = subst (λ z. Power L 1 (z ++ v)) (sym h) (power_one v k)
  power_push (suc n) u v (x, y, e, h, k) l = (x, y ++ v, ap (λ z. z ++ v) e ∙ append_assoc x y v, h, power_push n y v k l)

  -- what holds of the first element of each row of L holds of the first of their join
  pub power_first :
      (P : ℕ → Type 0) → ((p : ℕ) (w : List ℕ) → L (p ∷ w) → P p) → (n : ℕ) (v : List ℕ) → Power L n v
      → (p : ℕ) (w : List ℕ) → v ≡ p ∷ w → P p
  power_first P each zero v h p w e = absurd (cons≢nil (sym e ∙ h))
  power_first P each (suc n) v (x, y, d, h, k) p w e = go x h (sym d ∙ e) (power_first P each n y k p w)
    where
      go : (x : List ℕ) → L x → x ++ y ≡ p ∷ w → (y ≡ p ∷ w → P p) → P p
      go [] h e more = more e
      go (c ∷ x) h e more = subst P (heads e) (each c x h)

  -- and so of the last
  pub power_last :
      (P : ℕ → Type 0) → ((p : ℕ) (w : List ℕ) → L (w ++ (p ∷ [])) → P p) → (n : ℕ) (v : List ℕ) → Power L n v
      → (p : ℕ) (w : List ℕ) → v ≡ w ++ (p ∷ []) → P p
  power_last P each zero v h p w e = absurd (no_last w p (sym e ∙ h))
  power_last P each (suc n) v (x, y, d, h, k) p w e = go (last_cases x y w p (sym d ∙ e)) (power_last P each n y k p)
    where
      go : ((y ≡ []) × (x ≡ w ++ (p ∷ []))) ⊎ ((z : List ℕ) × (y ≡ z ++ (p ∷ []))) → ((w : List ℕ) → y ≡ w ++ (p ∷ []) → P p) → P p
      go (inl m) more = each p w (subst L m.1 h)
      go (inr m) more = more m.0 m.1
