-- The loops of the step: from one place to all, and from all places.
use Rattle.std.proofs.Common.{◌≡◌, ℕ, ◌+◌, ◌-◌, ◌≤◌, Bool, true, false, ◌&&◌, eqb, ltb, Ok, Err, Decides, Result, sym, refl, ap, ◌∙◌, subst, inl, inr, arith}
use Rattle.std.proofs.lemmas.Bool.{cases_eq, cases_Bool, eq-eqb, ne_eqb}
use Rattle.std.proofs.lemmas.Bool.Decides.{nat_tests}
use Rattle.refusals.specs.declared.Refusal.{Refusal}
use Rattle.banks.specs.Pairs.{Pairs, within, ◌∪◌, ◌⊆◌}
use Rattle.banks.specs.Meaning.{Meaning, Facts, Looked}
use Rattle.widths.specs.Width.{width_of}
use Rattle.tables.specs.declared.table.Table.{Table}
use Rattle.tables.specs.Tables.{takes, low_of}
use Rattle.steps.specs.StepSet.{seen, along, leaving, leaving_below}
use Rattle.steps.specs.Gathered.{Ready, Gathered}
use Rattle.steps.specs.Fronts.{Fresh}
use Rattle.steps.proofs.Any.{any_decides, any_more, Seen, seen_decides}
use Rattle.steps.proofs.Gathers.{gathered_none, gathered_same, gathered_ready, gathered_more, gathered_refused}

module _ (t : Table) (c : ℕ) (f : Pairs) where
  -- what the links from p give at the places below n
  abbrev pub leaving_to : ℕ → ℕ → Pairs
  leaving_to p n = λ q j. ltb q n && leaving t c f p q j

  -- the links from p to q give pairs at q alone
  along_at : (p q r j : ℕ) → along t f p q r j ≡ (eqb r q && along t f p r r j)
  along_at p q r j = elim (cases_eq r q) [
    | inl e ↦ subst (λ v. along t f p v r j ≡ (eqb r v && along t f p r r j)) e (let h = eq-eqb r r refl in grind arith)
    | inr x ↦ let h = ne_eqb r q x in grind arith
  ]

  pub to_more :
      (p q : ℕ) → 1 ≤ q → q ≤ t.places → takes t q c ≡ true
      → (r j : ℕ) → (leaving_to p q ∪ along t f p q) r j ≡ leaving_to p (q + 1) r j
  to_more p q a b h r j = elim (cases_eq r q) [
    | inl e ↦ let k = along_at p q r j in let z : takes t r c ≡ true = ap (λ v. takes t v c) e ∙ h in grind (arith, nat_tests)
    | inr x ↦ let k = along_at p q r j in grind (arith, nat_tests)
  ]

  pub to_same : (p q : ℕ) → takes t q c ≡ false → (r j : ℕ) → leaving_to p q r j ≡ leaving_to p (q + 1) r j
  to_same p q h r j = elim (cases_eq r q) [
    | inl e ↦ let z : takes t r c ≡ false = ap (λ v. takes t v c) e ∙ h in grind (arith, nat_tests)
    | inr x ↦ grind (arith, nat_tests)
  ]

  pub to_part : (p n : ℕ) → leaving_to p n ⊆ leaving t c f p
  to_part p n r j x = grind arith

  pub below_more : (p q j : ℕ) → (leaving_below t c f p ∪ leaving t c f p) q j ≡ leaving_below t c f (p + 1) q j
  below_more p q j = let h = any_more p (λ k. leaving t c f k q j) in grind arith

  pub below_part : (m n : ℕ) → m ≤ n → leaving_below t c f m ⊆ leaving_below t c f n
  below_part m n h q j x =
      let (k, below, y) = (any_decides m (λ k. leaving t c f k q j)).0 x in
      (any_decides n (λ k. leaving t c f k q j)).1 (k, omega arith, y)

  -- where f has nothing at p, nothing leaves p
  leaves_nothing : (p : ℕ) → ((i : ℕ) → f p i ≡ false) → (q j : ℕ) → leaving t c f p q j ≡ false
  leaves_nothing p h q j =
      let a = h (j - 0) in
      let b = h (j - 1) in
      let s : seen f p (low_of t p) (width_of t.widths p) ≡ false =
      elim (cases_Bool (seen f p (low_of t p) (width_of t.widths p))) [
        | inl x ↦ let (i, lo, hi, y) = (seen_decides f p (low_of t p) (width_of t.widths p)).0 x in let z = h i in grind arith
        | inr x ↦ x
      ] in
      grind arith

  pub below_same :
      (p : ℕ) → f ⊆ within (width_of t.widths) → (r : Bool) → Decides r (Seen f p 1 (width_of t.widths p)) → r ≡ false
      → (q j : ℕ) → leaving_below t c f p q j ≡ leaving_below t c f (p + 1) q j
  below_same p inside r d e q j =
      let h = any_more p (λ k. leaving t c f k q j) in
      let z = leaves_nothing p
      (λ i. elim (cases_Bool (f p i)) [
        | inl x ↦ let w = inside p i x in let y = d.1 (i, grind (arith, nat_tests), grind (arith, nat_tests), x) in grind arith
        | inr x ↦ x
      ]) q j in
      grind arith

module _ {B : Type 0} (m : Meaning B) (t : Table) (c : ℕ) (b : B) where
  -- Calls from the bank b on have put what leaves p for the places below n; or what leaves the places below n.
  abbrev pub To : ℕ → ℕ → Result (Unit {0}) Refusal → B → Type 0
  To p n r b' = Gathered m (leaving_to t c (m.front b) p n) b r b'

  abbrev pub Below : ℕ → Result (Unit {0}) Refusal → B → Type 0
  Below n r b' = Gathered m (leaving_below t c (m.front b) n) b r b'

  -- the links from p to q are followed
  pub to_followed :
      (p q : ℕ) (b₁ : B) (r : Result (Unit {0}) Refusal) (b₂ : B) → 1 ≤ q → q ≤ t.places → takes t q c ≡ true → To p q (Ok tt) b₁
      → (Ready m b₁ → Gathered m (along t (m.front b₁) p q) b₁ r b₂) → To p (q + 1) r b₂
  to_followed p q b₁ r b₂ a z h k go =
      let f = m.front b in
      let l = subst (λ v. Gathered m (along t v p q) b₁ r b₂) k.front_stays (go (gathered_ready m _ b b₁ k)) in
      gathered_same m (leaving_to t c f p q ∪ along t f p q) (leaving_to t c f p (q + 1)) b r b₂ (to_more t c f p q a z h)
      (gathered_more m _ _ b b₁ r b₂ k l)

  -- q does not take the code
  pub to_passed : (p q : ℕ) (b₁ : B) → takes t q c ≡ false → To p q (Ok tt) b₁ → To p (q + 1) (Ok tt) b₁
  to_passed p q b₁ h k = gathered_same m _ _ b (Ok tt) b₁ (to_same t c (m.front b) p q h) k

  pub to_refused :
      Facts m → (p n : ℕ) (e : Refusal) (b₁ : B) → m.standing b → To p n (Err e) b₁
      → Gathered m (leaving t c (m.front b) p) b (Err e) b₁
  to_refused facts p n e b₁ stands h = gathered_refused m facts _ _ b e b₁ stands (to_part t c (m.front b) p n) h

  -- a bank between two steps is ready
  fresh_ready : Facts m → Fresh m t b → Ready m b
  fresh_ready facts h =
      record { stands = h.stands; held = subst (m.holds b) (sym h.back_is) (facts.empty b h.stands) }

  pub below_begins : Facts m → Fresh m t b → Below 0 (Ok tt) b
  below_begins facts h = gathered_none m _ b (λ q j. refl) (fresh_ready facts h)

  -- the links from p are followed
  pub below_left :
      (p : ℕ) (b₁ : B) (r : Result (Unit {0}) Refusal) (b₂ : B) → Below p (Ok tt) b₁
      → (Ready m b₁ → Gathered m (leaving t c (m.front b₁) p) b₁ r b₂) → Below (p + 1) r b₂
  below_left p b₁ r b₂ k go =
      let f = m.front b in
      let l = subst (λ v. Gathered m (leaving t c v p) b₁ r b₂) k.front_stays (go (gathered_ready m _ b b₁ k)) in
      gathered_same m (leaving_below t c f p ∪ leaving t c f p) (leaving_below t c f (p + 1)) b r b₂ (below_more t c f p)
      (gathered_more m _ _ b b₁ r b₂ k l)

  -- nothing stands at p
  pub below_passed :
      (p : ℕ) (b₁ : B) (r : Bool) → Fresh m t b → Below p (Ok tt) b₁
      → (m.standing b₁ → Looked m p 1 (width_of t.widths p) b₁ r) → r ≡ false → Below (p + 1) (Ok tt) b₁
  below_passed p b₁ r fresh k look e =
      let d = subst (λ (v : Pairs). Decides r (Seen v p 1 (width_of t.widths p))) k.front_stays (look k.keeps.stands) in
      gathered_same m _ _ b (Ok tt) b₁ (below_same t c (m.front b) p fresh.inside r d e) k

  pub below_refused :
      Facts m → (n k : ℕ) (e : Refusal) (b₁ : B) → m.standing b → n ≤ k → Below n (Err e) b₁ → Below k (Err e) b₁
  below_refused facts n k e b₁ stands le h = gathered_refused m facts _ _ b e b₁ stands (below_part t c (m.front b) n k le) h
