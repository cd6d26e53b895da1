-- Fronts and needs by computing: lists of pairs that hold just what stands.
use Rattle.std.proofs.Common.{◌≡◌, ℕ, zero, suc, ◌<◌, ◌≤◌, Bool, true, false, ◌⊎◌, ◌↔◌, List, [], ◌∷◌, ◌++◌, Decides, sym, refl, ◌∙◌, subst, inl, inr, arith}
use mathlib.Core.Bool.{false≢true}
use Rattle.std.proofs.lemmas.Bool.{cases_lt}
use Rattle.automata.specs.Language.{Tree, In, WellFormed, NoEmptySet}
use Rattle.automata.specs.Places.{size, Holds, width}
use Rattle.automata.specs.Links.{Link}
use Rattle.automata.specs.Step.{Step, Start, After, Stands, Accepts}
use Rattle.automata.specs.Completion.{Least, Need, Stuck, Reach}
use Rattle.automata.specs.Decide.{holdsb, linkb, acceptsb}
use Rattle.automata.specs.Examples.{Listed}
use Rattle.automata.proofs.Ranges.{link_range}
use Rattle.automata.proofs.Widths.{AllInside, link_inside, step_inside, start_inside, front_inside}
use Rattle.automata.proofs.Fronts.{language_by_fronts_lem}
use Rattle.automata.proofs.Completions.{need_by_paths, stuck_by_paths}
use Rattle.automata.proofs.Decide.{decides_holds, decides_link, decides_accepts}

-- ---- lists of pairs

abbrev pub any : (ℕ → ℕ → Bool) → List (ℕ × ℕ) → Bool
any f [] = false
any f (x ∷ xs) = elim (f x.0 x.1) [ true ↦ true | false ↦ any f xs ]

abbrev pub keep : (ℕ → ℕ → Bool) → List (ℕ × ℕ) → List (ℕ × ℕ)
keep f [] = []
keep f (x ∷ xs) = elim (f x.0 x.1) [ true ↦ x ∷ keep f xs | false ↦ keep f xs ]

-- every count from 1 to k at the place q; every pair within the widths at the places from 1 to k
abbrev pub counts : ℕ → ℕ → List (ℕ × ℕ)
counts q zero = []
counts q (suc k) = counts q k ++ ((q, suc k) ∷ [])

abbrev pub up_to : Tree → ℕ → List (ℕ × ℕ)
up_to e zero = []
up_to e (suc k) = up_to e k ++ counts (suc k) (width e 0 (suc k))

abbrev pub pairs : Tree → List (ℕ × ℕ)
pairs e = up_to e (size e)

-- those of ys that a link leads to from a pair of xs
abbrev pub linked : Tree → List (ℕ × ℕ) → List (ℕ × ℕ) → List (ℕ × ℕ)
linked e xs ys = keep (λ q j. any (λ p i. linkb e p i q j) xs) ys

abbrev pub step_of : Tree → ℕ → List (ℕ × ℕ) → List (ℕ × ℕ)
step_of e s xs = linked e xs (keep (λ q j. holdsb e 0 q s) (pairs e))

abbrev pub after_of : Tree → List (ℕ × ℕ) → List ℕ → List (ℕ × ℕ)
after_of e xs [] = xs
after_of e xs (s ∷ w) = after_of e (step_of e s xs) w

abbrev pub front_pairs : Tree → List ℕ → List (ℕ × ℕ)
front_pairs e w = after_of e ((0, 1) ∷ []) w

-- a pair that accepts is n links from the list, and none is nearer
abbrev pub needb : Tree → ℕ → List (ℕ × ℕ) → Bool
needb e zero xs = any (acceptsb e) xs
needb e (suc n) xs = elim (any (acceptsb e) xs) [ true ↦ false | false ↦ needb e n (linked e xs (pairs e)) ]

-- The list holds just the pairs of G.
abbrev pub Same : List (ℕ × ℕ) → (ℕ → ℕ → Type 0) → Type 0
Same xs G = (p i : ℕ) → (Listed xs p i ↔ G p i)

module _ (f : ℕ → ℕ → Bool) (P : ℕ → ℕ → Type 0) (d : (p i : ℕ) → Decides (f p i) (P p i)) where
  -- the head of the list has what the pair has that is equal to it
  head_has : (x : ℕ × ℕ) (p i : ℕ) → (p ≡ x.0) × (i ≡ x.1) → P p i → P x.0 x.1
  head_has x p i (a, b) h = subst (λ z. P x.0 z) b (subst (λ z. P z i) a h)

  has_head : (x : ℕ × ℕ) (p i : ℕ) → (p ≡ x.0) × (i ≡ x.1) → P x.0 x.1 → P p i
  has_head x p i (a, b) h = subst (λ z. P z i) (sym a) (subst (λ z. P x.0 z) (sym b) h)

  any_listed : (xs : List (ℕ × ℕ)) → Decides (any f xs) ((p : ℕ) × (i : ℕ) × Listed xs p i × P p i)
  any_listed [] = (λ e. absurd (false≢true e), λ t. absurd t.2)
  any_listed (x ∷ xs) = go (f x.0 x.1) refl (any_listed xs)
    where
      go :
          (b : Bool) → f x.0 x.1 ≡ b → Decides (any f xs) ((p : ℕ) × (i : ℕ) × Listed xs p i × P p i)
          → Decides (elim b [ true ↦ true | false ↦ any f xs ]) ((p : ℕ) × (i : ℕ) × Listed (x ∷ xs) p i × P p i)
      go true e r = (λ _. (x.0, x.1, inl (refl, refl), (d x.0 x.1).0 e), λ _. refl)
      go false e r = ((λ k. let (p, i, h, t) = r.0 k in (p, i, inr h, t)), back)
        where
          back : ((p : ℕ) × (i : ℕ) × Listed (x ∷ xs) p i × P p i) → any f xs ≡ true
          back (p, i, inl h, t) = absurd (false≢true (sym e ∙ (d x.0 x.1).1 (head_has x p i h t)))
          back (p, i, inr h, t) = r.1 (p, i, h, t)

  pub any_same : (xs : List (ℕ × ℕ)) (G : ℕ → ℕ → Type 0) → Same xs G → Decides (any f xs) ((p : ℕ) × (i : ℕ) × G p i × P p i)
  any_same xs G same = (
    (λ e. let (p, i, h, t) = (any_listed xs).0 e in (p, i, (same p i).0 h, t)),
    (λ k. let (p, i, h, t) = k in (any_listed xs).1 (p, i, (same p i).1 h, t)),
  )

  pub keep_same : (xs : List (ℕ × ℕ)) (p i : ℕ) → (Listed (keep f xs) p i ↔ (Listed xs p i × P p i))
  keep_same [] p i = ((λ h. absurd h), (λ h. absurd h.0))
  keep_same (x ∷ xs) p i = go (f x.0 x.1) refl (keep_same xs p i)
    where
      go :
          (b : Bool) → f x.0 x.1 ≡ b → (Listed (keep f xs) p i ↔ (Listed xs p i × P p i))
          → (Listed (elim b [ true ↦ x ∷ keep f xs | false ↦ keep f xs ]) p i ↔ (Listed (x ∷ xs) p i × P p i))
      go true e r = (to, from)
        where
          to : ((p ≡ x.0) × (i ≡ x.1)) ⊎ Listed (keep f xs) p i → Listed (x ∷ xs) p i × P p i
          to (inl h) = (inl h, has_head x p i h ((d x.0 x.1).0 e))
          to (inr h) = (inr (r.0 h).0, (r.0 h).1)

          from : Listed (x ∷ xs) p i × P p i → ((p ≡ x.0) × (i ≡ x.1)) ⊎ Listed (keep f xs) p i
          from (inl h, t) = inl h
          from (inr h, t) = inr (r.1 (h, t))
      go false e r = ((λ h. (inr (r.0 h).0, (r.0 h).1)), from)
        where
          from : Listed (x ∷ xs) p i × P p i → Listed (keep f xs) p i
          from (inl h, t) = absurd (false≢true (sym e ∙ (d x.0 x.1).1 (head_has x p i h t)))
          from (inr h, t) = r.1 (h, t)

-- ---- all pairs within the widths are listed

listed_left : (xs ys : List (ℕ × ℕ)) (p i : ℕ) → Listed xs p i → Listed (xs ++ ys) p i
listed_left [] ys p i h = absurd h
listed_left (x ∷ xs) ys p i (inl h) = inl h
listed_left (x ∷ xs) ys p i (inr h) = inr (listed_left xs ys p i h)

listed_right : (xs ys : List (ℕ × ℕ)) (p i : ℕ) → Listed ys p i → Listed (xs ++ ys) p i
listed_right [] ys p i h = h
listed_right (x ∷ xs) ys p i h = inr (listed_right xs ys p i h)

counts_listed : (q k i : ℕ) → 1 ≤ i → i ≤ k → Listed (counts q k) q i
counts_listed q zero i a b = absurd (omega arith)
counts_listed q (suc k) i a b =
    elim (cases_lt k i) [
      | inl l ↦ listed_right (counts q k) ((q, suc k) ∷ []) q i (inl (refl, omega arith))
      | inr l ↦ listed_left (counts q k) ((q, suc k) ∷ []) q i (counts_listed q k i a l)
    ]

up_to_listed : (e : Tree) (k p i : ℕ) → 1 ≤ p → p ≤ k → 1 ≤ i → i ≤ width e 0 p → Listed (up_to e k) p i
up_to_listed e zero p i a b c d = absurd (omega arith)
up_to_listed e (suc k) p i a b c d = go (cases_lt k p) (λ l. up_to_listed e k p i a l c d)
  where
    go : (k < p) ⊎ (p ≤ k) → (p ≤ k → Listed (up_to e k) p i) → Listed (up_to e (suc k)) p i
    go (inl l) more =
        let is : p ≡ suc k = omega arith in
        let h = counts_listed (suc k) (width e 0 (suc k)) i c (subst (λ z. i ≤ width e 0 z) is d) in
        subst (λ z. Listed (up_to e (suc k)) z i) (sym is) (listed_right (up_to e k) (counts (suc k) (width e 0 (suc k))) (suc k) i h)
    go (inr l) more = listed_left (up_to e k) (counts (suc k) (width e 0 (suc k))) p i (more l)

-- ---- steps and fronts

-- The pairs that a link leads to from G.
abbrev Spread : Tree → (ℕ → ℕ → Type 0) → ℕ → ℕ → Type 0
Spread e G q j = (p : ℕ) × (i : ℕ) × G p i × Link e p i q j

module _ (e : Tree) (h : WellFormed e) where
  spread_inside : (G : ℕ → ℕ → Type 0) → AllInside e G → AllInside e (Spread e G)
  spread_inside G all q j (p, i, g, l) = link_inside e p i q j h (all p i g) l

  spread_listed : (G : ℕ → ℕ → Type 0) → AllInside e G → (q j : ℕ) → Spread e G q j → Listed (pairs e) q j
  spread_listed G all q j k =
      let r = link_range e k.0 k.1 q j k.3 in
      let f = spread_inside G all q j k in
      up_to_listed e (size e) q j r.0 f.0 f.1 f.2

  linked_same :
      (xs ys : List (ℕ × ℕ)) (G : ℕ → ℕ → Type 0) → Same xs G → (q j : ℕ) → (Listed (linked e xs ys) q j ↔ (Listed ys q j × Spread e G q j))
  linked_same xs ys G same =
      keep_same (λ q j. any (λ p i. linkb e p i q j) xs) (Spread e G)
      (λ q j. any_same (λ p i. linkb e p i q j) (λ p i. Link e p i q j) (λ p i. decides_link e p i q j) xs G same) ys

  spread_same : (xs : List (ℕ × ℕ)) (G : ℕ → ℕ → Type 0) → Same xs G → AllInside e G → Same (linked e xs (pairs e)) (Spread e G)
  spread_same xs G same all q j =
      let r = linked_same xs (pairs e) G same q j in
      ((λ k. (r.0 k).1), (λ k. r.1 (spread_listed G all q j k, k)))

  step_same : (s : ℕ) (xs : List (ℕ × ℕ)) (G : ℕ → ℕ → Type 0) → Same xs G → AllInside e G → Same (step_of e s xs) (Step e s G)
  step_same s xs G same all q j =
      let r = linked_same xs (keep (λ q j. holdsb e 0 q s) (pairs e)) G same q j in
      let t = keep_same (λ q j. holdsb e 0 q s) (λ q j. Holds e 0 q s) (λ q j. decides_holds e 0 q s) (pairs e) q j in
      ((λ k. ((t.0 (r.0 k).0).1, (r.0 k).1)), (λ k. r.1 (t.1 (spread_listed G all q j k.1, k.0), k.1)))

  after_same : (w : List ℕ) (xs : List (ℕ × ℕ)) (G : ℕ → ℕ → Type 0) → Same xs G → AllInside e G → Same (after_of e xs w) (After e G w)
  after_same [] xs G same all = same
  after_same (s ∷ w) xs G same all = after_same w (step_of e s xs) (Step e s G) (step_same s xs G same all) (step_inside e s G h all)

  pub front_same : (w : List ℕ) → Same (front_pairs e w) (Stands e w)
  front_same w = after_same w ((0, 1) ∷ []) Start start (start_inside e h)
    where
      start : Same ((0, 1) ∷ []) Start
      start p i = (to, λ k. inl k)
        where
          to : Listed ((0, 1) ∷ []) p i → Start p i
          to (inl k) = k
          to (inr k) = absurd k

  -- ---- fits, need and stuck

  accepts_same : (xs : List (ℕ × ℕ)) (G : ℕ → ℕ → Type 0) → Same xs G → Decides (any (acceptsb e) xs) ((p : ℕ) × (i : ℕ) × G p i × Accepts e p i)
  accepts_same xs G same = any_same (acceptsb e) (Accepts e) (decides_accepts e) xs G same

  pub fits_by_test : (w : List ℕ) → any (acceptsb e) (front_pairs e w) ≡ true → In e w
  fits_by_test w k = (language_by_fronts_lem e w h).1 ((accepts_same (front_pairs e w) (Stands e w) (front_same w)).0 k)

  -- a path of n links from a pair of G
  abbrev From : (ℕ → ℕ → Type 0) → ℕ → Type 0
  From G n = (p : ℕ) × (i : ℕ) × G p i × Reach e n p i

  need_least : (n : ℕ) (xs : List (ℕ × ℕ)) (G : ℕ → ℕ → Type 0) → Same xs G → AllInside e G → needb e n xs ≡ true → Least (From G) n
  need_least zero xs G same all k = ((accepts_same xs G same).0 k, λ m x. omega arith)
  need_least (suc n) xs G same all k =
      go (any (acceptsb e) xs) refl (need_least n (linked e xs (pairs e)) (Spread e G) (spread_same xs G same all) (spread_inside G all)) k
    where
      go :
          (b : Bool) → any (acceptsb e) xs ≡ b → (needb e n (linked e xs (pairs e)) ≡ true → Least (From (Spread e G)) n)
          → elim b [ true ↦ false | false ↦ needb e n (linked e xs (pairs e)) ] ≡ true → Least (From G) (suc n)
      go true eq r k = absurd (false≢true k)
      go false eq r k = ((let (q, j, (p, i, g, l), t) = (r k).0 in (p, i, g, (q, j, l, t))), least)
        where
          least : (m : ℕ) → From G m → suc n ≤ m
          least zero x = absurd (false≢true (sym eq ∙ (accepts_same xs G same).1 x))
          least (suc m) (p, i, g, (q, j, l, t)) = omega (arith, (r k).1 m (q, j, (p, i, g, l), t))

  pub need_by_test : NoEmptySet e → (w : List ℕ) (n : ℕ) → needb e n (front_pairs e w) ≡ true → Need e w n
  need_by_test ne w n k =
      (need_by_paths e w n h ne).1 (need_least n (front_pairs e w) (Stands e w) (front_same w) (λ p i. front_inside e w p i h) k)

  pub stuck_by_test : NoEmptySet e → (w : List ℕ) → front_pairs e w ≡ [] → Stuck e w
  stuck_by_test ne w k =
      (stuck_by_paths e w h ne).1 (λ n x. subst (λ xs. Listed xs x.0 x.1) k ((front_same w x.0 x.1).1 x.2))
