-- The least mark of more and more pairs of a set.
use Rattle.std.proofs.Common.{◌≡◌, ℕ, suc, ◌+◌, ◌≤◌, true, false, ◌&&◌, ◌||◌, eqb, ltb, leb, ◌⊎◌, Some, None, Option, sym, ap, ◌∙◌, subst, inl, inr, arith}
use Rattle.std.proofs.lemmas.Bool.{both_ways, and_parts, leb-true}
use Rattle.std.proofs.lemmas.Bool.Decides.{nat_tests, eqb_tells, leb_tells}
use Rattle.banks.specs.Pairs.{Pairs, within, ◌⊆◌}
use Rattle.completions.specs.declared.nearest.Found.{Found}
use Rattle.completions.specs.Nearest.{before, improving, LeastMark}

-- the counts of a set within the widths
in_widths : (f : Pairs) (ws : ℕ → ℕ) → f ⊆ within ws → (a b : ℕ) → f a b ≡ true → (1 ≤ b) × (b ≤ ws a)
in_widths f ws inside a b x =
    let (k, l) = and_parts (leb 1 b) (leb b (ws a)) (inside a b x) in
    (leb-true 1 b k, leb-true b (ws a) l)

module _ (M : ℕ → ℕ → ℕ) where
  -- another description of the same set
  pub least_same : (s s' : Pairs) (r : Option Found) → s ⊆ s' → s' ⊆ s → LeastMark M s r → LeastMark M s' r
  least_same s s' None to of h = λ p i x. h p i (of p i x)
  least_same s s' (Some x) to of (here, mark, least) = (to x.place x.count here, mark, λ p i y. least p i (of p i y))

  -- of no pair
  pub least_none : (s : Pairs) → ((p i : ℕ) → s p i ≡ true → ⊥) → LeastMark M s None
  least_none s never = λ p i x. absurd (never p i x)

  module _ (f : Pairs) (p i : ℕ) where
    -- one more count
    before_more : (a b : ℕ) → before f p (i + 1) a b ≡ true → (before f p i a b ≡ true) ⊎ ((a ≡ p) × (b ≡ i) × (f a b ≡ true))
    before_more a b x = elim (eqb_tells a p) [
      | inl (s, k) ↦ elim (eqb_tells b i) [
        | inl (t, l) ↦ inr (k, l, grind (arith, nat_tests))
        | inr (t, l) ↦ inl (grind (arith, nat_tests))
      ]
      | inr (s, k) ↦ inl (grind (arith, nat_tests))
    ]

    before_on : (a b : ℕ) → before f p i a b ≡ true → before f p (i + 1) a b ≡ true
    before_on a b x = grind (arith, nat_tests)

    mark_here : (a b : ℕ) → a ≡ p → b ≡ i → M a b ≡ M p i
    mark_here a b k l = ap (λ v. M v b) k ∙ ap (M p) l

    -- a pair that does not stand, or is no nearer, changes nothing
    pub least_kept : (old : Option Found) → (improving old (M p i) ≡ false) ⊎ (f p i ≡ false) → LeastMark M (before f p i) old → LeastMark M (before f p (i + 1)) old
    least_kept None why h = λ a b x. elim (before_more a b x) [
      | inl y ↦ h a b y
      | inr (k, l, y) ↦ elim why [
        | inl w ↦ let m = mark_here a b k l in grind (arith, nat_tests)
        | inr w ↦ absurd (both_ways (f a b) (ap (λ v. f v b) k ∙ ap (f p) l ∙ w) y)
      ]
    ]
    least_kept (Some x) why (here, mark, least) = (
      before_on x.place x.count here,
      mark,
      λ a b y. elim (before_more a b y) [
        | inl z ↦ least a b z
        | inr (k, l, z) ↦ elim why [
          | inl w ↦ let m = mark_here a b k l in past a b m w
          | inr w ↦ absurd (both_ways (f a b) (ap (λ v. f v b) k ∙ ap (f p) l ∙ w) z)
        ]
      ],
    )
      where
        past : (a b : ℕ) → M a b ≡ M p i → improving (Some x) (M p i) ≡ false → (M a b ≡ 0) ⊎ (suc x.distance ≤ M a b)
        past a b m w = elim (eqb_tells (M p i) 0) [ inl (s, k) ↦ inl (m ∙ k) | inr (s, k) ↦ inr (grind (arith, nat_tests)) ]

    -- a nearer pair that stands is what is found then
    pub least_taken :
        (old : Option Found) (d : ℕ) → M p i ≡ suc d → improving old (suc d) ≡ true → f p i ≡ true
        → LeastMark M (before f p i) old → LeastMark M (before f p (i + 1)) (Some (record { place = p; count = i; distance = d }))
    least_taken old d e w s h = (
      grind (arith, nat_tests),
      e,
      λ a b y. elim (before_more a b y) [
        | inl z ↦ further old w h a b z
        | inr (k, l, z) ↦ let q = mark_here a b k l in inr (omega arith)
      ],
    )
      where
        further : (o : Option Found) → improving o (suc d) ≡ true → LeastMark M (before f p i) o → (a b : ℕ) → before f p i a b ≡ true → (M a b ≡ 0) ⊎ (suc d ≤ M a b)
        further None v l a b z = inl (l a b z)
        further (Some x) v (here, mark, least) a b z = elim (least a b z) [
          | inl k ↦ inl k
          | inr k ↦ inr (grind (arith, nat_tests))
        ]

  -- Before the first count of the next place there are the pairs up to the last count of this one.
  pub least_place :
      (f : Pairs) (ws : ℕ → ℕ) (p : ℕ) (r : Option Found) → f ⊆ within ws
      → LeastMark M (before f p (ws p + 1)) r → LeastMark M (before f (p + 1) 1) r
  least_place f ws p r inside h =
      least_same (before f p (ws p + 1)) (before f (p + 1) 1) r (λ a b x. grind (arith, nat_tests))
      (λ a b x. upto a b x) h
    where
      upto : (a b : ℕ) → before f (p + 1) 1 a b ≡ true → before f p (ws p + 1) a b ≡ true
      upto a b x =
          let s : f a b ≡ true = grind (arith, nat_tests) in
          let k = inside a b s in
          elim (eqb_tells a p) [
            | inl (t, l) ↦ let w : ws a ≡ ws p = ap ws l in grind (arith, nat_tests)
            | inr (t, l) ↦ grind (arith, nat_tests)
          ]

  -- Where nothing stands at p there is nothing more before the next place.
  pub least_skip :
      (f : Pairs) (ws : ℕ → ℕ) (p : ℕ) (r : Option Found) → f ⊆ within ws → ((i : ℕ) × (1 ≤ i) × (i ≤ ws p) × (f p i ≡ true) → ⊥)
      → LeastMark M (before f p 1) r → LeastMark M (before f (p + 1) 1) r
  least_skip f ws p r inside nothing h =
      least_same (before f p 1) (before f (p + 1) 1) r (λ a b x. grind (arith, nat_tests)) (λ a b x. upto a b x) h
    where
      upto : (a b : ℕ) → before f (p + 1) 1 a b ≡ true → before f p 1 a b ≡ true
      upto a b x =
          let (s, y) = and_parts (f a b) (ltb a (p + 1) || eqb a (p + 1) && ltb b 1) x in
          let (low, high) = in_widths f ws inside a b s in
          elim (eqb_tells a p) [
            | inl (t, l) ↦ absurd (nothing (b, low, subst (λ v. b ≤ ws v) l high, sym (ap (λ v. f v b) l) ∙ s))
            | inr (t, l) ↦ grind (arith, nat_tests)
          ]

  -- Nothing stands before the first count of the start.
  pub least_start : (f : Pairs) (ws : ℕ → ℕ) → f ⊆ within ws → LeastMark M (before f 0 1) None
  least_start f ws inside = least_none (before f 0 1) (λ a b x. never a b x)
    where
      never : (a b : ℕ) → before f 0 1 a b ≡ true → ⊥
      never a b x =
          let s : f a b ≡ true = grind (arith, nat_tests) in
          let k = inside a b s in
          both_ways (before f 0 1 a b) (grind (arith, nat_tests)) x

  -- Before the place behind the last one there is the whole set.
  pub least_all :
      (f : Pairs) (ws : ℕ → ℕ) (n : ℕ) (r : Option Found) → f ⊆ within ws → ((p : ℕ) → n ≤ p → ws p ≡ 0)
      → LeastMark M (before f n 1) r → LeastMark M f r
  least_all f ws n r inside none h =
      least_same (before f n 1) f r (λ a b x. grind (arith, nat_tests)) (λ a b x. upto a b x) h
    where
      upto : (a b : ℕ) → f a b ≡ true → before f n 1 a b ≡ true
      upto a b x = let k = inside a b x in elim (leb_tells n a) [
        | inl (s, l) ↦ let z = none a l in absurd (both_ways (within ws a b) (grind (arith, nat_tests)) k)
        | inr (s, l) ↦ grind (arith, nat_tests)
      ]
