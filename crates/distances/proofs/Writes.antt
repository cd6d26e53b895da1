-- A write of a better mark keeps the marks grounded and leaves less to gain.
use Rattle.std.proofs.Common.{◌≡◌, ℕ, zero, suc, ◌+◌, ◌<◌, ◌≤◌, Bool, true, cond, ◌⊎◌, List, [], ◌∷◌, length, get_or, set, sym, ◌∙◌, subst, inl, inr, ⊎_elim, arith}
use Rattle.std.proofs.lemmas.List.{get_or-set_same, get_or-set_other}
use Rattle.std.proofs.lemmas.Bool.{cases_eq}
use Rattle.std.proofs.lemmas.Bool.Decides.{nat_tests}
use Rattle.widths.specs.Width.{widths_of, base_of}
use Rattle.distances.specs.declared.graph.Graph.{Graph}
use Rattle.distances.specs.Graphs.{Pair, Leads, accepting, mark_in, number_in}
use Rattle.distances.specs.Search.{Better, Grounded, Ground, Behind, rest}
use Rattle.distances.proofs.Numbers.{number_inner, number_apart, total_room}

-- what a mark r of (p, i) rests on
abbrev pub Rests : (ℕ → ℕ → ℕ → ℕ → Type 0) → (ℕ → ℕ → Bool) → (ℕ → ℕ → ℕ) → ℕ → ℕ → ℕ → Type 0
Rests L A M p i r = ((r ≡ 1) × (A p i ≡ true)) ⊎ ((q : ℕ) × (j : ℕ) × L p i q j × (1 ≤ M q j) × (r ≡ M q j + 1))

-- The marks M become N by a better mark r of (p, i) alone.
module _ (D : ℕ → ℕ → Type 0) (L : ℕ → ℕ → ℕ → ℕ → Type 0) (A : ℕ → ℕ → Bool) (M N : ℕ → ℕ → ℕ)
    (into : (p i q j : ℕ) → L p i q j → D q j)
    (p i r : ℕ) (rests : Rests L A M p i r) (some : 1 ≤ r) (small : r ≤ 4097)
    (better : (M p i ≡ 0) ⊎ (r < M p i))
    (here : N p i ≡ r)
    (elsewhere : (a b : ℕ) → D a b → ((a ≡ p) × (b ≡ i)) ⊎ (N a b ≡ M a b)) where
  -- a pair has the new mark in place of that of (p, i), or the mark it had
  at : (a b : ℕ) → D a b → ((N a b ≡ r) × (M a b ≡ M p i)) ⊎ (N a b ≡ M a b)
  at a b d = ⊎_elim
      (λ (e : (a ≡ p) × (b ≡ i)). inl (let x = e.0 in let y = e.1 in (cc, cc)))
      (λ (e : N a b ≡ M a b). inr e)
      (elsewhere a b d)

  -- a mark that was there is there, and no larger
  fell : (a b : ℕ) → D a b → 1 ≤ M a b → (1 ≤ N a b) × (N a b ≤ M a b)
  fell a b d h = ⊎_elim
      (λ (e : (N a b ≡ r) × (M a b ≡ M p i)).
      let e0 = e.0 in
      let e1 = e.1 in
      ⊎_elim (λ (z : M p i ≡ 0). let w : ⊥ = omega arith in absurd w) (λ (z : r < M p i). (omega arith, omega arith)) better)
      (λ (e : N a b ≡ M a b). (omega arith, omega arith))
      (at a b d)

  -- a pair with a mark below the new one keeps it
  kept : (q j : ℕ) → D q j → 1 ≤ M q j → M q j < r → N q j ≡ M q j
  kept q j d h l = ⊎_elim
      (λ (e : (N q j ≡ r) × (M q j ≡ M p i)).
      let e0 = e.0 in
      let e1 = e.1 in
      ⊎_elim (λ (z : M p i ≡ 0). let w : ⊥ = omega arith in absurd w) (λ (z : r < M p i). let w : ⊥ = omega arith in absurd w) better)
      (λ (e : N q j ≡ M q j). e)
      (at q j d)

  grounded_one : Grounded D L A M → (a b : ℕ) → D a b → N a b ≡ 1 → ((a ≡ p) × (b ≡ i)) ⊎ (N a b ≡ M a b) → A a b ≡ true
  grounded_one g a b d o (inl (x, y)) = ⊎_elim
      (λ (k : (r ≡ 1) × (A p i ≡ true)). let k1 = k.1 in cc)
      (λ k. let k3 = k.3 in let k4 = k.4 in let v : N a b ≡ r = cc in let w : ⊥ = omega arith in absurd w)
      rests
  grounded_one g a b d o (inr e) = g.one a b d (sym e ∙ o)

  grounded_more : Grounded D L A M → (a b : ℕ) → D a b → 2 ≤ N a b → ((a ≡ p) × (b ≡ i)) ⊎ (N a b ≡ M a b)
      → (q : ℕ) × (j : ℕ) × L a b q j × (1 ≤ N q j) × (N q j < N a b)
  grounded_more g a b d o (inl (x, y)) =
      let v : N a b ≡ r = cc in
      ⊎_elim
      (λ (k : (r ≡ 1) × (A p i ≡ true)). let k0 = k.0 in let w : ⊥ = omega arith in absurd w)
      (λ k.
      let k3 = k.3 in
      let k4 = k.4 in
      let s = kept k.0 k.1 (into p i k.0 k.1 k.2) k3 (omega arith) in
      (k.0, k.1, subst (λ (u : ℕ). L u b k.0 k.1) (sym x) (subst (λ (u : ℕ). L p u k.0 k.1) (sym y) k.2), omega arith, omega arith))
      rests
  grounded_more g a b d o (inr e) =
      let s = g.more a b d (omega arith) in
      let f = fell s.0 s.1 (into a b s.0 s.1 s.2) s.3 in
      (s.0, s.1, s.2, f.0, omega (arith, f.1, s.4))

  pub grounded_write : Grounded D L A M → Grounded D L A N
  grounded_write g = record {
    small = λ a b d. ⊎_elim
        (λ (e : (N a b ≡ r) × (M a b ≡ M p i)). let e0 = e.0 in omega arith)
        (λ (e : N a b ≡ M a b). let h = g.small a b d in omega arith)
        (at a b d);
    one = λ a b d o. grounded_one g a b d o (elsewhere a b d);
    more = λ a b d o. grounded_more g a b d o (elsewhere a b d);
  }

-- less is left to gain
pub rest_falls : (l : List ℕ) (k v : ℕ) → k < length l → 1 ≤ v → v ≤ 4097 → (get_or l k 0 ≡ 0) ⊎ (v < get_or l k 0) → rest (set l k v) < rest l
rest_falls [] k v h a b w = let z : ⊥ = omega arith in absurd z
rest_falls (x ∷ xs) zero v h a b w = ⊎_elim
    (λ (e : x ≡ 0). grind (arith, nat_tests))
    (λ (e : v < x). grind (arith, nat_tests))
    w
rest_falls (x ∷ xs) (suc k) v h a b w = let t = rest_falls xs k v (omega arith) a b w in omega arith

-- an area of zeros has no mark
pub ground_zero : (g : Graph) (l : List ℕ) → ((k : ℕ) → k < 4096 → get_or l k 0 ≡ 0) → Ground g l
ground_zero g l zeros = record {
  small = λ p i d. let z = none p i d in omega arith;
  one = λ p i d e. let z = none p i d in let w : ⊥ = omega arith in absurd w;
  more = λ p i d e. let z = none p i d in let w : ⊥ = omega arith in absurd w;
}
  where
    none : (p i : ℕ) → Pair g p i → mark_in g l p i ≡ 0
    none p i d = zeros (number_in g p i) (let n = number_inner g p i d in let t = total_room (widths_of g.layout) in omega arith)

-- The mark r of (p, i), the best that its links allow, is written at k.
module _ (g : Graph) (l : List ℕ) (long : 4096 ≤ length l) (p i r k : ℕ) (d : Pair g p i) (k-is : k ≡ number_in g p i)
    (ground : Ground g l) (b : Better (mark_in g l) (Leads g p i) (cond (accepting g p i) 1 0) r) where
  inner : k < base_of (widths_of g.layout) 65
  inner = let h = number_inner g p i d in omega arith

  within_area : k < length l
  within_area = let h = inner in let t = total_room (widths_of g.layout) in omega arith

  first_small : cond (accepting g p i) 1 0 ≤ 4097
  first_small = grind (arith, nat_tests)

  rests_on : 1 ≤ r → Rests (Leads g) (accepting g) (mark_in g l) p i r
  rests_on some = ⊎_elim
      (λ (e : r ≡ cond (accepting g p i) 1 0). inl (grind (arith, nat_tests), grind (arith, nat_tests)))
      (λ s. inr s)
      b.from

  pub write_ground : 1 ≤ r → (get_or l k 0 ≡ 0) ⊎ (r < get_or l k 0) → Ground g (set l k r)
  write_ground some better =
      grounded_write (Pair g) (Leads g) (accepting g) (mark_in g l) (mark_in g (set l k r)) (λ a b c d x. x.0) p i r (rests_on some) some (b.small first_small)
      (subst (λ (v : ℕ). (get_or l v 0 ≡ 0) ⊎ (r < get_or l v 0)) k-is better)
      (subst (λ (v : ℕ). get_or (set l k r) v 0 ≡ r) k-is (get_or-set_same l k r 0 within_area))
      (λ c e x.
      ⊎_elim
      (λ (same : number_in g c e ≡ k). inl (number_apart g c e p i x d (same ∙ k-is)))
      (λ (ne : number_in g c e ≡ k → ⊥). inr (get_or-set_other l k (number_in g c e) r 0 ne))
      (cases_eq (number_in g c e) k))
      ground

  pub write_behind : Behind g l (set l k r)
  write_behind n h = get_or-set_other l k n r 0 (λ e. let y = inner in omega arith)

  pub write_falls : 1 ≤ r → (get_or l k 0 ≡ 0) ⊎ (r < get_or l k 0) → rest (set l k r) < rest l
  write_falls some better = rest_falls l k r within_area some (b.small first_small) better
