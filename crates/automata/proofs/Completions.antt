-- Completions of a row are paths of links from its front, since every place has some symbol.
use Rattle.std.proofs.lemmas.List.{nil_from_length}
use Rattle.std.proofs.Common.{◌≡◌, ℕ, zero, suc, ◌+◌, ◌<◌, ◌≤◌, ◌↔◌, List, [], ◌∷◌, ◌++◌, length, sym, refl, ap, ◌∙◌, subst, inl, inr, append-nil, arith}
use mathlib.Core.Logic.Iff
use Rattle.automata.specs.Language.{Tree, empty, unit, cat, alt, star, plus, opt, rep, In, WellFormed, NoEmptySet}
use Rattle.automata.specs.Places.{size, Holds}
use Rattle.automata.specs.Step.{Start, Stands}
use Rattle.automata.specs.Completion.{Least, Completed, Need, Reach, Near}
use Rattle.automata.specs.Theorems.{CompletionsByPaths, NeedByPaths, StuckByPaths, NeedUnique, NeedZero, NeedNotStuck}
use Rattle.automata.proofs.Ranges.{Range, range_cases, link_range}
use Rattle.automata.proofs.Fronts.{Whole, after_whole, whole_after, language_by_fronts_lem, after_append}

-- ---- every place has a symbol

unit_place : (o p : ℕ) → (o < p) × (p ≤ o + 1) → p ≡ suc o
unit_place o p r = omega arith

alt_symbol :
    (a b : Tree) (o p : ℕ) → (Range a o p → (s : ℕ) × Holds a o p s) → (Range b (o + size a) p → (s : ℕ) × Holds b (o + size a) p s)
    → Range (alt a b) o p → (s : ℕ) × Holds (alt a b) o p s
alt_symbol a b o p left right r =
    elim (range_cases a b o p r) [ inl k ↦ ((left k).0, inl (left k).1) | inr k ↦ ((right k).0, inr (right k).1) ]

pub symbol_at : (e : Tree) (o p : ℕ) → NoEmptySet e → Range e o p → (s : ℕ) × Holds e o p s
symbol_at empty o p h r = absurd (omega arith)
symbol_at (unit S) o p (c, h) r = (c, (unit_place o p r, h))
symbol_at (cat a b) o p h r = alt_symbol a b o p (symbol_at a o p h.0) (symbol_at b (o + size a) p h.1) r
symbol_at (alt a b) o p h r = alt_symbol a b o p (symbol_at a o p h.0) (symbol_at b (o + size a) p h.1) r
symbol_at (star a) o p h r = symbol_at a o p h r
symbol_at (plus a) o p h r = symbol_at a o p h r
symbol_at (opt a) o p h r = symbol_at a o p h r
symbol_at (rep lo hi a) o p h r = symbol_at a o p h r

-- ---- paths and completions

whole_reach : (e : Tree) (v : List ℕ) (p i : ℕ) → Whole e p i v → Reach e (length v) p i
whole_reach e [] p i t = t
whole_reach e (s ∷ v) p i (q, j, l, h, t) = (q, j, l, whole_reach e v q j t)

reach_whole : (e : Tree) → NoEmptySet e → (n p i : ℕ) → Reach e n p i → (v : List ℕ) × (length v ≡ n) × Whole e p i v
reach_whole e ne zero p i t = ([], refl, t)
reach_whole e ne (suc n) p i (q, j, l, t) =
    let (v, is, m) = reach_whole e ne n q j t in
    let (s, h) = symbol_at e 0 q ne (link_range e p i q j l) in
    (s ∷ v, ap suc is, (q, j, l, h, m))

-- A row that is continued into the language is read on from a pair of its front.
pub front_on : (e : Tree) (w v : List ℕ) → WellFormed e → In e (w ++ v) → (p : ℕ) × (i : ℕ) × Stands e w p i × Whole e p i v
front_on e w v h k =
    let (p, i, st, ac) = (language_by_fronts_lem e (w ++ v) h).0 k in
    after_whole e v (Stands e w) (p, i, subst (λ G. G p i) (after_append e w v Start) st, ac)

on_front : (e : Tree) (w v : List ℕ) → WellFormed e → (p : ℕ) × (i : ℕ) × Stands e w p i × Whole e p i v → In e (w ++ v)
on_front e w v h k =
    let (p, i, st, ac) = whole_after e v (Stands e w) k in
    (language_by_fronts_lem e (w ++ v) h).1 (p, i, subst (λ G. G p i) (sym (after_append e w v Start)) st, ac)

pub completions_by_paths_lem : CompletionsByPaths
completions_by_paths_lem e w n h ne = (
  (λ k.
      let (v, is, m) = k in
      let (p, i, st, t) = front_on e w v h m in
      (p, i, st, subst (λ x. Reach e x p i) is (whole_reach e v p i t))),
  (λ k.
      let (p, i, st, r) = k in
      let (v, is, t) = reach_whole e ne n p i r in
      (v, is, on_front e w v h (p, i, st, t))),
)

-- ---- the least number

pub least_unique : (P : ℕ → Type 0) (m n : ℕ) → Least P m → Least P n → m ≡ n
least_unique P m n h k = omega (arith, h.1 n k.0, k.1 m h.0)

pub least_like : (P Q : ℕ → Type 0) → ((n : ℕ) → (P n ↔ Q n)) → (n : ℕ) → (Least P n ↔ Least Q n)
least_like P Q same n = (
  (λ k. ((same n).0 k.0, λ m x. k.1 m ((same m).1 x))),
  (λ k. ((same n).1 k.0, λ m x. k.1 m ((same m).0 x))),
)

pub need_by_paths : NeedByPaths
need_by_paths e w n h ne = least_like (Completed e w) (Near e w) (λ m. completions_by_paths_lem e w m h ne) n

pub stuck_by_paths : StuckByPaths
stuck_by_paths e w h ne = (
  (λ k n x. let (v, is, m) = (completions_by_paths_lem e w n h ne).1 x in k v m),
  (λ k v x. k (length v) ((completions_by_paths_lem e w (length v) h ne).0 (v, refl, x))),
)

pub need_unique : NeedUnique
need_unique e w m n h k = least_unique (Completed e w) m n h k

need_in : (e : Tree) (w : List ℕ) → (Need e w 0 ↔ In e w)
need_in e w = (
  (λ k. let (v, is, x) = k.0 in subst (λ z. In e z) (ap (λ z. w ++ z) (nil_from_length v is) ∙ append-nil w) x),
  (λ k. (([], refl, subst (λ z. In e z) (sym (append-nil w)) k), λ m x. omega arith)),
)

pub need_zero : NeedZero
need_zero e w = (need_in e w, λ h. Iff.trans (need_in e w) (language_by_fronts_lem e w h))

pub need_not_stuck : NeedNotStuck
need_not_stuck e w n h k = k h.0.0 h.0.2
