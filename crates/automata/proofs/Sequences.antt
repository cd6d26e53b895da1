-- Alternatives read the rows that either side reads; a sequence reads a row of the first joined with a row of the second.
use Rattle.std.proofs.Common.{◌≡◌, ℕ, ◌+◌, ◌⊎◌, List, [], ◌∷◌, ◌++◌, refl, subst, inl, inr}
use Rattle.automata.specs.Language.{Tree, cat, alt}
use Rattle.automata.specs.Places.{size, nullable, First, Holds}
use Rattle.automata.specs.Links.{Takes}
use Rattle.automata.proofs.Powers.{T_and, and_T, T_or, or_T}
use Rattle.automata.proofs.Ranges.{Range, first_range, takes_range}
use Rattle.automata.proofs.Runs.{Leaves, Tail, Runs, Split, Cut, split_more, split_cut, tail_up, tail_down, tail_on}
use Rattle.automata.proofs.Parts.{left_part, right_part, second_part, holds_left⁻, holds_right⁻, takes_first, takes_over, takes_first⁻, leaves_first, leaves_first⁻}

module _ (a b : Tree) (o : ℕ) where
  -- ---- alternatives

  pub alt_runs : (w : List ℕ) → Runs a o w ⊎ Runs b (o + size a) w → Runs (alt a b) o w
  alt_runs [] h = T_or (nullable a) (nullable b) h
  alt_runs (s ∷ w) (inl (q, f, h, t)) = (q, inl f, inl h, tail_up a o (alt a b) o (left_part a b o) w q 1 t)
  alt_runs (s ∷ w) (inr (q, f, h, t)) = (q, inr f, inr h, tail_up b (o + size a) (alt a b) o (right_part a b o) w q 1 t)

  pub runs_alt : (w : List ℕ) → Runs (alt a b) o w → Runs a o w ⊎ Runs b (o + size a) w
  runs_alt [] h = or_T (nullable a) (nullable b) h
  runs_alt (s ∷ w) (q, inl f, h, t) =
      let r = first_range a o q f in
      inl (q, f, holds_left⁻ a b o q s r h, tail_down a o (alt a b) o (left_part a b o) w q 1 r t)
  runs_alt (s ∷ w) (q, inr f, h, t) =
      let r = first_range b (o + size a) q f in
      inr (q, f, holds_right⁻ a b o q s r h, tail_down b (o + size a) (alt a b) o (right_part a b o) w q 1 r t)

  -- ---- a sequence

  second_up : (q s : ℕ) (w : List ℕ) → Tail b (o + size a) q 1 w → Tail (cat a b) o q 1 w
  second_up q s w t = tail_up b (o + size a) (cat a b) o (second_part a b o) w q 1 t

  second_down : (q s : ℕ) (w : List ℕ) → First b (o + size a) q → Holds (cat a b) o q s → Tail (cat a b) o q 1 w → Runs b (o + size a) (s ∷ w)
  second_down q s w f h t =
      let r = first_range b (o + size a) q f in
      (q, f, holds_right⁻ a b o q s r h, tail_down b (o + size a) (cat a b) o (second_part a b o) w q 1 r t)

  -- from where the first can be left, a row of the second
  cat_on : (v : List ℕ) → Runs b (o + size a) v → (p i : ℕ) → Leaves a o p i → Tail (cat a b) o p i v
  cat_on [] h p i l = leaves_first a b o p i h l
  cat_on (s ∷ v) (q, f, h, t) p i l = (q, 1, takes_over a b o p i q l f, inr h, second_up q s v t)

  pub cat_runs : (u v : List ℕ) → Runs a o u → Runs b (o + size a) v → Runs (cat a b) o (u ++ v)
  cat_runs [] [] h k = T_and (nullable a) (nullable b) h k
  cat_runs [] (s ∷ v) n (q, f, h, t) = (q, inr (n, f), inr h, second_up q s v t)
  cat_runs (s ∷ u) v (q, f, h, t) k =
      (q, inl f, inl h, tail_on a (cat a b) o (takes_first a b o) (λ q s h. inl h) v (cat_on v k) u q 1 t)

  cat_tail⁻ : (w : List ℕ) (p i : ℕ) → Range a o p → Tail (cat a b) o p i w → Split a o (Runs b (o + size a)) p i w
  cat_tail⁻ [] p i r t = let h = leaves_first⁻ a b o p i r t in ([], [], refl, h.1, h.0)
  cat_tail⁻ (s ∷ w) p i r (q, j, l, h, t) = go (takes_first⁻ a b o p i q j r l) (λ r'. cat_tail⁻ w q j r' t)
    where
      go :
          Takes a o p i q j ⊎ (Leaves a o p i × First b (o + size a) q × (j ≡ 1))
          → (Range a o q → Split a o (Runs b (o + size a)) q j w) → Split a o (Runs b (o + size a)) p i (s ∷ w)
      go (inl k) more =
          let r' = (takes_range a o p i q j k).1 in
          split_more a o (Runs b (o + size a)) p i q j s w k (holds_left⁻ a b o q s r' h) (more r')
      go (inr (k, f, e)) more = ([], s ∷ w, refl, k, second_down q s w f h (subst (λ x. Tail (cat a b) o q x w) e t))

  pub runs_cat : (w : List ℕ) → Runs (cat a b) o w → Cut a o (Runs b (o + size a)) w
  runs_cat [] h = let k = and_T (nullable a) (nullable b) h in ([], [], refl, k.0, k.1)
  runs_cat (s ∷ w) (q, inl f, h, t) =
      let r = first_range a o q f in
      split_cut a o (Runs b (o + size a)) q s w f (holds_left⁻ a b o q s r h) (cat_tail⁻ w q 1 r t)
  runs_cat (s ∷ w) (q, inr (n, f), h, t) = ([], s ∷ w, refl, n, second_down q s w f h t)
