-- A table of distances that meets the local facts is right, and tells need, stuck and hint.
use Rattle.std.proofs.Common.{◌≡◌, ℕ, zero, suc, ◌-◌, ◌≤◌, ◌⊎◌, refl, inl, inr, arith}
use Rattle.automata.specs.Language.{Tree, WellFormed}
use Rattle.automata.specs.Completion.{Least, Reach, Near}
use Rattle.automata.specs.Distances.{Inside, Labelled}
use Rattle.automata.specs.Theorems.{LabelsRight, NeedByLabels, StuckByLabels, HintByLabels}
use Rattle.automata.proofs.Widths.{link_inside, front_inside}
use Rattle.automata.proofs.Completions.{need_by_paths, stuck_by_paths}
use Rattle.automata.proofs.Hints.{hint_by_paths}

module _ (e : Tree) (label : ℕ → ℕ → ℕ) (h : WellFormed e) (t : Labelled e label) where
  -- a path bounds the label
  reach_label : (n p i : ℕ) → Inside e p i → Reach e n p i → (1 ≤ label p i) × (label p i ≤ suc n)
  reach_label zero p i f r = omega (arith, t.accepting p i f r)
  reach_label (suc n) p i f (q, j, l, r) =
      let k = reach_label n q j (link_inside e p i q j h f l) r in
      let is : label q j ≡ suc (label q j - 1) = omega arith in
      omega (arith, t.linked p i q j (label q j - 1) f l is)

  -- a label is the length of a path
  label_reach : (k p i : ℕ) → Inside e p i → label p i ≡ suc k → Reach e k p i
  label_reach zero p i f is = t.accepts p i f is
  label_reach (suc k) p i f is =
      let (q, j, l, is') = t.leads p i k f is in
      (q, j, l, label_reach k q j (link_inside e p i q j h f l) is')

  none_label : (p i : ℕ) → Inside e p i → ((n : ℕ) → Reach e n p i → ⊥) → label p i ≡ 0
  none_label p i f none = go (label p i) refl
    where
      go : (k : ℕ) → label p i ≡ k → k ≡ 0
      go zero is = refl
      go (suc k) is = absurd (none k (label_reach k p i f is))

pub labels_right : LabelsRight
labels_right e label p i h t f =
    (λ k. (to k, from k), ((λ is n r. omega (arith, reach_label e label h t n p i f r)), none_label e label h t p i f))
  where
    to : (k : ℕ) → label p i ≡ suc k → Least (λ n. Reach e n p i) k
    to k is = (label_reach e label h t k p i f is, λ n r. omega (arith, reach_label e label h t n p i f r))

    from : (k : ℕ) → Least (λ n. Reach e n p i) k → label p i ≡ suc k
    from k (r, least) =
        let b = reach_label e label h t k p i f r in
        let is : label p i ≡ suc (label p i - 1) = omega arith in
        omega (arith, least (label p i - 1) (label_reach e label h t (label p i - 1) p i f is))

pub need_by_labels : NeedByLabels
need_by_labels e label w p i n h ne t st is least =
    (need_by_paths e w n h ne).1 ((p, i, st, label_reach e label h t n p i (front_inside e w p i h st) is), shortest)
  where
    below : (m k : ℕ) → (k ≡ 0) ⊎ (suc n ≤ k) → (1 ≤ k) × (k ≤ suc m) → n ≤ m
    below m k (inl x) b = omega arith
    below m k (inr x) b = omega arith

    shortest : (m : ℕ) → Near e w m → n ≤ m
    shortest m (q, j, st', r) = below m (label q j) (least q j st') (reach_label e label h t m q j (front_inside e w q j h st') r)

pub stuck_by_labels : StuckByLabels
stuck_by_labels e label w h ne t = (
  (λ k p i st. none_label e label h t p i (front_inside e w p i h st) (λ n r. (stuck_by_paths e w h ne).0 k n (p, i, st, r))),
  (λ all.
      (stuck_by_paths e w h ne).1
      (λ n x.
      let (p, i, st, r) = x in
      omega (arith, all p i st, reach_label e label h t n p i (front_inside e w p i h st) r))),
)

pub hint_by_labels : HintByLabels
hint_by_labels e label w p i q j s n h ne t need st l is k =
    hint_by_paths e w n p i q j s h ne need st l
    (label_reach e label h t n q j (link_inside e p i q j h (front_inside e w p i h st) l) is) k
