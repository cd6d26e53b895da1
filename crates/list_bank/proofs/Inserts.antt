-- A pair put into a list in order, and a list that is full.
use Rattle.std.specs.Prelude.{◌≡◌, ℕ, zero, suc, ◌+◌, ◌-◌, ◌<◌, ◌≤◌, true, false, ◌&&◌, ◌||◌, ◌⊎◌, List, ◌∷◌, length, get_or, Decides, ◌==◌, ◌≢◌, nat_le, nat_lt, slice_index_or, refl}
use Rattle.std.proofs.Common.{sym, ap, ◌∙◌, ⊎_elim, inl, inr, le_of_suc-le-suc, not-suc-le-zero, arith}
use Rattle.std.specs.List.{insert}
use Rattle.std.proofs.lemmas.List.Edits.{length-insert, get_or-insert_below, get_or-insert_at, get_or-insert_above}
use Rattle.std.proofs.lemmas.Bool.{cases_lt, cases_eq, cases_Bool, or_left, or_right, and_from, and_parts, eq-eqb, eqb-true, ltb-true, leb-true, lt-ltb, le-leb, false≢true}
use Rattle.std.proofs.lemmas.Bool.Decides.{same_from_decides, Decides-like, Decides-or, Decides-and, Decides-eqb}
use Rattle.banks.specs.Pairs.{only, ◌∪◌}
use Rattle.banks.proofs.Sets.{same_pairs}
use Rattle.list_bank.specs.declared.pairs.PairList.{PairList}
use Rattle.list_bank.specs.Listed.{rank, listed, Short}
use Rattle.list_bank.specs.Means.{pairs_of, At}
use Rattle.list_bank.proofs.Lists.{Among, listed_decides, Distinct, Found, at_least}

-- a pair that is there changes nothing
pub same_there : (l : PairList) (k p i : ℕ) → At l k p i → pairs_of l ≡ (pairs_of l ∪ only p i)
same_there l k p i at = same_pairs (pairs_of l) (pairs_of l ∪ only p i) (λ a j. same_from_decides (listed l.pairs.items (length l.pairs.items) a j) (listed l.pairs.items (length l.pairs.items) a j || (a == p && j == i))
    (listed_decides l.pairs.items (length l.pairs.items) a j)
    (Decides-like (listed l.pairs.items (length l.pairs.items) a j || (a == p && j == i))
    (λ h. ⊎_elim (λ x. x) (λ e. (k, at.within, (at.place ∙ sym e.0, at.count ∙ sym e.1))) h)
    (λ x. inl x)
    (Decides-or (listed l.pairs.items (length l.pairs.items) a j) (a == p && j == i) (listed_decides l.pairs.items (length l.pairs.items) a j) (Decides-and (a == p) (j == i) (Decides-eqb a p) (Decides-eqb j i)))))

-- a pair that is listed is found
found : (ys : List (ℕ × ℕ)) (x : ℕ × ℕ) → listed ys (length ys) x.0 x.1 ≡ true → Found ys x
found ys x h = let a = (listed_decides ys (length ys) x.0 x.1).0 h in (a.0, a.1, (λ t. (a.2.0 t, a.2.1 t)))

-- where (p, i) is not the pair at k, it comes before all pairs from k on
pub comes_before : (l : PairList) (p i k : ℕ) → ((m : ℕ) → k ≤ m → m < length l.pairs.items → rank (p, i) ≤ rank (slice_index_or l.pairs.items m (0, 0)))
    → (k < length l.pairs.items → rank (p, i) ≢ rank (slice_index_or l.pairs.items k (0, 0)))
    → (m : ℕ) → k ≤ m → m < length l.pairs.items → rank (p, i) < rank (slice_index_or l.pairs.items m (0, 0))
comes_before l p i k above ne m h u = ⊎_elim
    (λ (e : m ≡ k).
    let a = above m h u in
    let r : rank (slice_index_or l.pairs.items m (0, 0)) ≡ rank (slice_index_or l.pairs.items k (0, 0)) = ap (λ (x : ℕ). rank (slice_index_or l.pairs.items x (0, 0))) e in
    let n = ne (omega arith) in
    ⊎_elim
    (λ (q : rank (p, i) ≡ rank (slice_index_or l.pairs.items k (0, 0))). absurd (n q))
    (λ (q : rank (p, i) ≡ rank (slice_index_or l.pairs.items k (0, 0)) → ⊥). omega arith)
    (cases_eq (rank (p, i)) (rank (slice_index_or l.pairs.items k (0, 0)))))
    (λ (d : m ≡ k → ⊥).
    let a = above k (omega arith) (omega arith) in
    let o = l.ascends k m (omega arith) u in
    omega arith)
    (cases_eq m k)

-- (p, i) would be at k: the pairs below come before it, those from k on after it
module _ (l : PairList) (p i k : ℕ) (bound : k ≤ length l.pairs.items)
    (below : (m : ℕ) → m < k → rank (slice_index_or l.pairs.items m (0, 0)) < rank (p, i))
    (over : (m : ℕ) → k ≤ m → m < length l.pairs.items → rank (p, i) < rank (slice_index_or l.pairs.items m (0, 0))) where
  other : (m : ℕ) → m < length l.pairs.items → (p, i) ≢ slice_index_or l.pairs.items m (0, 0)
  other m h e =
      let r : rank (p, i) ≡ rank (slice_index_or l.pairs.items m (0, 0)) = ap rank e in
      ⊎_elim
      (λ (u : m < k). let b = below m u in omega arith)
      (λ (u : k ≤ m). let b = over m u h in omega arith)
      (cases_lt m k)

  distinct : Distinct ((p, i) ∷ l.pairs.items) (suc (length l.pairs.items))
  distinct zero zero h u e = not-suc-le-zero h
  distinct zero (suc m) h u e = other m (le_of_suc-le-suc u) e
  distinct (suc j) zero h u e = not-suc-le-zero h
  distinct (suc j) (suc m) h u e =
      let a = l.ascends j m (le_of_suc-le-suc h) (le_of_suc-le-suc u) in
      let r : rank (slice_index_or l.pairs.items j (0, 0)) ≡ rank (slice_index_or l.pairs.items m (0, 0)) = ap rank e in
      omega arith

  -- every one of the pairs, and (p, i), is in a list that has them all
  all_found : (ys : List (ℕ × ℕ)) → ((a j : ℕ) → (pairs_of l ∪ only p i) a j ≡ true → listed ys (length ys) a j ≡ true)
      → (m : ℕ) → m < suc (length l.pairs.items) → Found ys (slice_index_or ((p, i) ∷ l.pairs.items) m (0, 0))
  all_found ys has zero h = found ys (p, i) (has p i (or_right (pairs_of l p i) (p == p && i == i) (and_from (p == p) (i == i) (eq-eqb p p refl) (eq-eqb i i refl))))
  all_found ys has (suc m) h =
      let x = get_or l.pairs.items m (0, 0) in
      found ys x (has x.0 x.1 (or_left (pairs_of l x.0 x.1) (only p i x.0 x.1)
      ((listed_decides l.pairs.items (length l.pairs.items) x.0 x.1).1 (m, le_of_suc-le-suc h, (refl, refl)))))

  -- 256 pairs and one more are too many
  pub too_many : length l.pairs.items ≡ 256 → Short (pairs_of l ∪ only p i) → ⊥
  too_many full s =
      let n = at_least (suc (length l.pairs.items)) ((p, i) ∷ l.pairs.items) s.0 distinct (all_found s.0 s.2) in
      let u = s.1 in
      omega arith

  -- with (p, i) put in at k, and the pairs from k on moved up
  module _ (items : List (ℕ × ℕ))
      (same : (m : ℕ) → m < k → slice_index_or items m (0, 0) ≡ slice_index_or l.pairs.items m (0, 0))
      (here : get_or items k (0, 0) ≡ (p, i))
      (up : (m : ℕ) → k ≤ m → m < length l.pairs.items → slice_index_or items (m + 1) (0, 0) ≡ slice_index_or l.pairs.items m (0, 0)) where
    -- what stands at m now
    now_at : (m : ℕ) → m < length l.pairs.items + 1
        → ((m < k) × (slice_index_or items m (0, 0) ≡ slice_index_or l.pairs.items m (0, 0))) ⊎ (((m ≡ k) × (slice_index_or items m (0, 0) ≡ (p, i))) ⊎ ((k < m) × (slice_index_or items m (0, 0) ≡ slice_index_or l.pairs.items (m - 1) (0, 0))))
    now_at m h = ⊎_elim
        (λ (u : m < k). inl (u, same m u))
        (λ (u : k ≤ m). ⊎_elim
        (λ (e : m ≡ k). inr (inl (e, ap (λ (x : ℕ). get_or items x (0, 0)) e ∙ here)))
        (λ (ne : m ≡ k → ⊥).
        let s : m ≡ m - 1 + 1 = omega arith in
        inr (inr (omega arith, ap (λ (x : ℕ). get_or items x (0, 0)) s ∙ up (m - 1) (omega arith) (omega arith))))
        (cases_eq m k))
        (cases_lt m k)

    after_k : (m : ℕ) → k < m → m < length l.pairs.items + 1 → rank (slice_index_or items m (0, 0)) ≡ rank (slice_index_or l.pairs.items (m - 1) (0, 0))
    after_k m h u =
        let s : m ≡ m - 1 + 1 = omega arith in
        ap (λ (x : ℕ). rank (slice_index_or items x (0, 0))) s ∙ ap rank (up (m - 1) (omega arith) (omega arith))

    -- a pair that was there, or (p, i), is there now
    put_in : (a j : ℕ) → (Among l.pairs.items (length l.pairs.items) a j ⊎ ((a ≡ p) × (j ≡ i))) → Among items (length l.pairs.items + 1) a j
    put_in a j = ⊎_elim
        (λ (x : Among l.pairs.items (length l.pairs.items) a j).
        let lt = x.1 in
        ⊎_elim
        (λ (u : x.0 < k). (x.0, omega arith, (ap (λ y. y.0) (same x.0 u) ∙ x.2.0, ap (λ y. y.1) (same x.0 u) ∙ x.2.1)))
        (λ (u : k ≤ x.0). (x.0 + 1, omega arith, (ap (λ y. y.0) (up x.0 u lt) ∙ x.2.0, ap (λ y. y.1) (up x.0 u lt) ∙ x.2.1)))
        (cases_lt x.0 k))
        (λ (e : (a ≡ p) × (j ≡ i)). (k, omega arith, (ap (λ y. y.0) here ∙ sym e.0, ap (λ y. y.1) here ∙ sym e.1)))

    -- a pair that is there now was there, or is (p, i)
    taken_out : (a j : ℕ) → Among items (length l.pairs.items + 1) a j → (Among l.pairs.items (length l.pairs.items) a j ⊎ ((a ≡ p) × (j ≡ i)))
    taken_out a j x =
        let lt = x.1 in
        ⊎_elim
        (λ (b : (x.0 < k) × (slice_index_or items x.0 (0, 0) ≡ slice_index_or l.pairs.items x.0 (0, 0))).
        let u = b.0 in
        inl (x.0, omega arith, (ap (λ y. y.0) (sym b.1) ∙ x.2.0, ap (λ y. y.1) (sym b.1) ∙ x.2.1)))
        (⊎_elim
        (λ (b : (x.0 ≡ k) × (slice_index_or items x.0 (0, 0) ≡ (p, i))). inr (sym x.2.0 ∙ ap (λ y. y.0) b.1, sym x.2.1 ∙ ap (λ y. y.1) b.1))
        (λ (b : (k < x.0) × (slice_index_or items x.0 (0, 0) ≡ slice_index_or l.pairs.items (x.0 - 1) (0, 0))).
        let u = b.0 in
        inl (x.0 - 1, omega arith, (ap (λ y. y.0) (sym b.1) ∙ x.2.0, ap (λ y. y.1) (sym b.1) ∙ x.2.1))))
        (now_at x.0 lt)

    pub ascends_more : (j m : ℕ) → j < m → m < length l.pairs.items + 1 → rank (slice_index_or items j (0, 0)) < rank (slice_index_or items m (0, 0))
    ascends_more j m h u = ⊎_elim
        (λ (a : (j < k) × (slice_index_or items j (0, 0) ≡ slice_index_or l.pairs.items j (0, 0))).
        let ra : rank (slice_index_or items j (0, 0)) ≡ rank (slice_index_or l.pairs.items j (0, 0)) = ap rank a.1 in
        let va = below j a.0 in
        ⊎_elim
        (λ (b : (m < k) × (slice_index_or items m (0, 0) ≡ slice_index_or l.pairs.items m (0, 0))).
        let rb : rank (slice_index_or items m (0, 0)) ≡ rank (slice_index_or l.pairs.items m (0, 0)) = ap rank b.1 in
        let x = b.0 in
        let o = l.ascends j m h (omega arith) in
        omega arith)
        (⊎_elim
        (λ (b : (m ≡ k) × (slice_index_or items m (0, 0) ≡ (p, i))).
        let rb : rank (slice_index_or items m (0, 0)) ≡ rank (p, i) = ap rank b.1 in
        omega arith)
        (λ (b : (k < m) × (slice_index_or items m (0, 0) ≡ slice_index_or l.pairs.items (m - 1) (0, 0))).
        let rb : rank (slice_index_or items m (0, 0)) ≡ rank (slice_index_or l.pairs.items (m - 1) (0, 0)) = ap rank b.1 in
        let x = b.0 in
        let o = over (m - 1) (omega arith) (omega arith) in
        omega arith))
        (now_at m u))
        (⊎_elim
        (λ (a : (j ≡ k) × (slice_index_or items j (0, 0) ≡ (p, i))).
        let ra : rank (slice_index_or items j (0, 0)) ≡ rank (p, i) = ap rank a.1 in
        let y = a.0 in
        let rb : rank (slice_index_or items m (0, 0)) ≡ rank (slice_index_or l.pairs.items (m - 1) (0, 0)) = after_k m (omega arith) u in
        let o = over (m - 1) (omega arith) (omega arith) in
        omega arith)
        (λ (a : (k < j) × (slice_index_or items j (0, 0) ≡ slice_index_or l.pairs.items (j - 1) (0, 0))).
        let ra : rank (slice_index_or items j (0, 0)) ≡ rank (slice_index_or l.pairs.items (j - 1) (0, 0)) = ap rank a.1 in
        let y = a.0 in
        let rb : rank (slice_index_or items m (0, 0)) ≡ rank (slice_index_or l.pairs.items (m - 1) (0, 0)) = after_k m (omega arith) u in
        let o = l.ascends (j - 1) (m - 1) (omega arith) (omega arith) in
        omega arith))
        (now_at j (omega arith))

    -- every place has 8 bits
    pub places_more : p < 256 → (m : ℕ) → m < length l.pairs.items + 1 → (get_or items m (0, 0)).0 < 256
    places_more hp m h = ⊎_elim
        (λ (a : (m < k) × (slice_index_or items m (0, 0) ≡ slice_index_or l.pairs.items m (0, 0))).
        let e : (get_or items m (0, 0)).0 ≡ (get_or l.pairs.items m (0, 0)).0 = ap (λ y. y.0) a.1 in
        let u = a.0 in
        let f = l.places m (omega arith) in
        omega arith)
        (⊎_elim
        (λ (a : (m ≡ k) × (slice_index_or items m (0, 0) ≡ (p, i))). let e : (get_or items m (0, 0)).0 ≡ p = ap (λ y. y.0) a.1 in omega arith)
        (λ (a : (k < m) × (slice_index_or items m (0, 0) ≡ slice_index_or l.pairs.items (m - 1) (0, 0))).
        let e : (get_or items m (0, 0)).0 ≡ (get_or l.pairs.items (m - 1) (0, 0)).0 = ap (λ y. y.0) a.1 in
        let u = a.0 in
        let f = l.places (m - 1) (omega arith) in
        omega arith))
        (now_at m h)

    pub listed_more : listed items (length l.pairs.items + 1) ≡ (pairs_of l ∪ only p i)
    listed_more = same_pairs (listed items (length l.pairs.items + 1)) (pairs_of l ∪ only p i) (λ a j.
        same_from_decides (listed items (length l.pairs.items + 1) a j) (listed l.pairs.items (length l.pairs.items) a j || (a == p && j == i))
        (listed_decides items (length l.pairs.items + 1) a j)
        (Decides-like (listed l.pairs.items (length l.pairs.items) a j || (a == p && j == i)) (put_in a j) (taken_out a j)
        (Decides-or (listed l.pairs.items (length l.pairs.items) a j) (a == p && j == i) (listed_decides l.pairs.items (length l.pairs.items) a j)
        (Decides-and (a == p) (j == i) (Decides-eqb a p) (Decides-eqb j i)))))

  -- the library's `insert` does so
  module _ (items : List (ℕ × ℕ)) (is : items ≡ insert l.pairs.items k (p, i)) where
    same_put : (m : ℕ) → m < k → slice_index_or items m (0, 0) ≡ slice_index_or l.pairs.items m (0, 0)
    same_put m h = ap (λ (xs : List (ℕ × ℕ)). get_or xs m (0, 0)) is ∙ get_or-insert_below l.pairs.items k (p, i) (0, 0) m h bound

    here_put : get_or items k (0, 0) ≡ (p, i)
    here_put = ap (λ (xs : List (ℕ × ℕ)). get_or xs k (0, 0)) is ∙ get_or-insert_at l.pairs.items k (p, i) (0, 0) bound

    up_put : (m : ℕ) → k ≤ m → m < length l.pairs.items → slice_index_or items (m + 1) (0, 0) ≡ slice_index_or l.pairs.items m (0, 0)
    up_put m h u = ap (λ (xs : List (ℕ × ℕ)). get_or xs (m + 1) (0, 0)) is ∙ get_or-insert_above l.pairs.items k (p, i) (0, 0) m h bound

    pub one_more : length items ≡ length l.pairs.items + 1
    one_more = ap length is ∙ length-insert l.pairs.items k (p, i) bound

    pub listed_after : listed items (length items) ≡ (pairs_of l ∪ only p i)
    listed_after = ap (λ (n : ℕ). listed items n) one_more ∙ listed_more items same_put here_put up_put

-- a count from low to high is listed at p exactly where the first pair that is not before (p, low) is at p with a count up to high
pub any_is : (l : PairList) (p low high k : ℕ) → high < 65536 → (get_or l.pairs.items k (0, 0)).1 < 65536
    → ((m : ℕ) → m < k → rank (slice_index_or l.pairs.items m (0, 0)) < rank (p, low))
    → ((m : ℕ) → k ≤ m → m < length l.pairs.items → rank (p, low) ≤ rank (slice_index_or l.pairs.items m (0, 0)))
    → Decides (nat_lt k (length l.pairs.items) && ((get_or l.pairs.items k (0, 0)).0 == p && nat_le (get_or l.pairs.items k (0, 0)).1 high)) ((i : ℕ) × (low ≤ i) × (i ≤ high) × (pairs_of l p i ≡ true))
any_is l p low high k fits-high fits below above =
    let x = get_or l.pairs.items k (0, 0) in (
      (λ t.
          let g = and_parts (nat_lt k (length l.pairs.items)) (x.0 == p && nat_le x.1 high) t in
          let h = and_parts (x.0 == p) (nat_le x.1 high) g.1 in
          let lt : k < length l.pairs.items = ltb-true k (length l.pairs.items) g.0 in
          let at : (get_or l.pairs.items k (0, 0)).0 ≡ p = eqb-true x.0 p h.0 in
          let le : (get_or l.pairs.items k (0, 0)).1 ≤ high = leb-true x.1 high h.1 in
          let a = above k (omega arith) lt in
          (x.1, omega arith, le, (listed_decides l.pairs.items (length l.pairs.items) p x.1).1 (k, lt, (at, refl)))),
      (λ s.
          let m = (listed_decides l.pairs.items (length l.pairs.items) p s.0).0 s.3 in
          let lo = s.1 in let hi = s.2 in let um = m.1 in
          let e0 = m.2.0 in let e1 = m.2.1 in
          let le : k ≤ m.0 = ⊎_elim
          (λ (u : m.0 < k). let b = below m.0 u in let no_way : ⊥ = omega arith in absurd no_way)
          (λ (u : k ≤ m.0). u)
          (cases_lt m.0 k) in
          let lt : k < length l.pairs.items = omega arith in
          let a = above k (omega arith) lt in
          let o : rank (slice_index_or l.pairs.items k (0, 0)) ≤ rank (slice_index_or l.pairs.items m.0 (0, 0)) = ⊎_elim
          (λ (e : m.0 ≡ k). let r : rank (slice_index_or l.pairs.items m.0 (0, 0)) ≡ rank (slice_index_or l.pairs.items k (0, 0)) = ap (λ (y : ℕ). rank (slice_index_or l.pairs.items y (0, 0))) e in omega arith)
          (λ (d : m.0 ≡ k → ⊥). let v = l.ascends k m.0 (omega arith) um in omega arith)
          (cases_eq m.0 k) in
          let at : (get_or l.pairs.items k (0, 0)).0 ≡ p = omega arith in
          and_from (nat_lt k (length l.pairs.items)) (x.0 == p && nat_le x.1 high) (lt-ltb k (length l.pairs.items) lt)
          (and_from (x.0 == p) (nat_le x.1 high) (eq-eqb x.0 p at) (le-leb x.1 high (omega arith)))),
    )

-- where all pairs come before (p, low), no count from low on is listed at p
pub any_none : (l : PairList) (p low high k : ℕ) → length l.pairs.items ≤ k
    → ((m : ℕ) → m < k → rank (slice_index_or l.pairs.items m (0, 0)) < rank (p, low))
    → Decides false ((i : ℕ) × (low ≤ i) × (i ≤ high) × (pairs_of l p i ≡ true))
any_none l p low high k le below = (
  (λ t. absurd (false≢true t)),
  (λ s.
      let m = (listed_decides l.pairs.items (length l.pairs.items) p s.0).0 s.3 in
      let um = m.1 in let lo = s.1 in
      let e0 = m.2.0 in let e1 = m.2.1 in
      let b = below m.0 (omega arith) in
      let no_way : ⊥ = omega arith in absurd no_way),
)

-- no place from 256 on is listed
pub listed_past : (l : PairList) (p i : ℕ) → 256 ≤ p → pairs_of l p i ≡ false
listed_past l p i h = ⊎_elim
    (λ (t : pairs_of l p i ≡ true).
    let m = (listed_decides l.pairs.items (length l.pairs.items) p i).0 t in
    let e0 = m.2.0 in
    let f = l.places m.0 m.1 in
    let no_way : ⊥ = omega arith in absurd no_way)
    (λ (t : pairs_of l p i ≡ false). t)
    (cases_Bool (pairs_of l p i))

pub look_past : (l : PairList) (p low high : ℕ) → 256 ≤ p → Decides false ((i : ℕ) × (low ≤ i) × (i ≤ high) × (pairs_of l p i ≡ true))
look_past l p low high h = ((λ t. absurd (false≢true t)), (λ s. sym (listed_past l p s.0 h) ∙ s.3))

-- the pairs of a list are at most 256
pub short_list : (l : PairList) → Short (pairs_of l)
short_list l = (l.pairs.items, l.room, (λ p i h. h))
