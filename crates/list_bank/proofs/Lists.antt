-- Lists of pairs: what is listed, and that a list without doubles is no longer than one that has all its pairs.
use Rattle.std.specs.Prelude.{◌≡◌, ℕ, zero, suc, ◌+◌, ◌-◌, ◌<◌, ◌≤◌, ◌&&◌, List, length, get_or, Decides, ◌==◌, ◌≢◌, slice_index_or, refl}
use Rattle.std.proofs.Common.{sym, ap, ◌∙◌, ⊎_elim, zero-le, arith}
use Rattle.std.specs.List.{remove}
use Rattle.std.proofs.lemmas.List.Edits.{length-remove, get_or-remove_below, get_or-remove_above}
use Rattle.std.proofs.lemmas.Bool.{cases_lt, cases_eq}
use Rattle.std.proofs.lemmas.Bool.Decides.{Decides-below_or, Decides-and, Decides-eqb}
use Rattle.banks.specs.Pairs.{◌⊆◌}
use Rattle.list_bank.specs.Listed.{rank, listed}

-- (p, i) is the pair at some place below n
abbrev pub Among : List (ℕ × ℕ) → ℕ → ℕ → ℕ → Type 0
Among xs n p i = (k : ℕ) × (k < n) × (((get_or xs k (0, 0)).0 ≡ p) × ((get_or xs k (0, 0)).1 ≡ i))

pub listed_decides : (xs : List (ℕ × ℕ)) (n p i : ℕ) → Decides (listed xs n p i) (Among xs n p i)
unfolding listed
listed_decides xs n p i =
    Decides-below_or
    (λ k. ((get_or xs k (0, 0)).0 == p) && (get_or xs k (0, 0)).1 == i)
    (λ k. ((get_or xs k (0, 0)).0 ≡ p) × ((get_or xs k (0, 0)).1 ≡ i))
    (λ m. listed xs m p i)
    (λ k. Decides-and ((get_or xs k (0, 0)).0 == p) ((get_or xs k (0, 0)).1 == i) (Decides-eqb (get_or xs k (0, 0)).0 p) (Decides-eqb (get_or xs k (0, 0)).1 i))
    refl (λ m. refl) n

-- what is listed below m is listed below n
pub listed_rises : (xs : List (ℕ × ℕ)) (m n : ℕ) → m ≤ n → listed xs m ⊆ listed xs n
listed_rises xs m n h p i e =
    let a = (listed_decides xs m p i).0 e in
    (listed_decides xs n p i).1 (a.0, (let l = a.1 in omega arith), a.2)

-- no two of the first n pairs are equal
abbrev pub Distinct : List (ℕ × ℕ) → ℕ → Type 0
Distinct zs n = (j k : ℕ) → j < k → k < n → slice_index_or zs j (0, 0) ≢ slice_index_or zs k (0, 0)

abbrev pub Found : List (ℕ × ℕ) → ℕ × ℕ → Type 0
Found ys x = (g : ℕ) × (g < length ys) × (slice_index_or ys g (0, 0) ≡ x)

-- a pair of the list that is not the one at g is found in what is left without that
found_left : (ys : List (ℕ × ℕ)) (g : ℕ) (x : ℕ × ℕ) → g < length ys → Found ys x → (slice_index_or ys g (0, 0) ≢ x) → Found (remove ys g) x
found_left ys g x lg f ne =
    let r = length-remove ys g lg in
    ⊎_elim
    (λ (h : f.0 < g). (f.0, omega arith, get_or-remove_below ys g (0, 0) f.0 h lg ∙ f.2))
    (λ (h : g ≤ f.0). ⊎_elim
    (λ (e : f.0 ≡ g). absurd (ne (ap (λ (k : ℕ). get_or ys k (0, 0)) (sym e) ∙ f.2)))
    (λ (d : f.0 ≡ g → ⊥).
    let u = f.1 in
    let s : f.0 - 1 + 1 ≡ f.0 = omega arith in
    (f.0 - 1, omega arith, get_or-remove_above ys g (0, 0) (f.0 - 1) (omega arith) lg ∙ ap (λ (k : ℕ). get_or ys k (0, 0)) s ∙ f.2))
    (cases_eq f.0 g))
    (cases_lt f.0 g)

-- n distinct pairs that are all found in a list: it has at least n
pub at_least : (n : ℕ) (zs ys : List (ℕ × ℕ)) → Distinct zs n → ((k : ℕ) → k < n → Found ys (slice_index_or zs k (0, 0))) → n ≤ length ys
at_least zero zs ys d all = zero-le
at_least (suc n) zs ys d all =
    let f = all n (omega arith) in
    let r = length-remove ys f.0 f.1 in
    let m = at_least n zs (remove ys f.0) (λ j k h l. d j k h (omega arith))
    (λ k h. found_left ys f.0 (slice_index_or zs k (0, 0)) f.1 (all k (omega arith)) (λ e. d k n h (omega arith) (sym e ∙ f.2))) in
    omega arith

-- pairs of rising rank are distinct
pub distinct_ranks : (zs : List (ℕ × ℕ)) (n : ℕ) → ((j k : ℕ) → j < k → k < n → rank (slice_index_or zs j (0, 0)) < rank (slice_index_or zs k (0, 0))) → Distinct zs n
distinct_ranks zs n h j k l u e =
    let a = h j k l u in
    let b : rank (slice_index_or zs j (0, 0)) ≡ rank (slice_index_or zs k (0, 0)) = ap rank e in
    omega arith
