-- Grounded marks that nothing lowers go down by one along some link, so that none passes the number of pairs.
use Rattle.std.proofs.Common.{◌≡◌, ℕ, zero, suc, ◌+◌, ◌-◌, ◌<◌, ◌≤◌, cond, ◌&&◌, leb, List, [], ◌∷◌, length, get_or, take, ◌∙◌, ⊎_elim, arith}
use Rattle.std.proofs.lemmas.List.{get_or-take, length-take}
use Rattle.std.proofs.lemmas.Bool.{cases_lt}
use Rattle.std.proofs.lemmas.Bool.Decides.{nat_tests}
use Rattle.widths.specs.Width.{widths_of}
use Rattle.distances.specs.declared.graph.Graph.{Graph}
use Rattle.distances.specs.Graphs.{Pair, Leads, mark_in, number_in}
use Rattle.distances.specs.Search.{Ground, Settled}
use Rattle.distances.proofs.Numbers.{number_inner, total_room}

-- how many numbers of the list are from 1 to m
abbrev pub tally : ℕ → List ℕ → ℕ
tally m [] = 0
tally m (x ∷ xs) = cond (leb 1 x && leb x m) 1 0 + tally m xs

tally_length : (m : ℕ) (l : List ℕ) → tally m l ≤ length l
tally_length m [] = omega arith
tally_length m (x ∷ xs) = let h = tally_length m xs in grind (arith, nat_tests)

tally_grows : (m : ℕ) (l : List ℕ) → tally m l ≤ tally (suc m) l
tally_grows m [] = omega arith
tally_grows m (x ∷ xs) = let h = tally_grows m xs in grind (arith, nat_tests)

tally_more : (m : ℕ) (l : List ℕ) (k : ℕ) → k < length l → get_or l k 0 ≡ suc m → tally m l < tally (suc m) l
tally_more m [] k h e = let z : ⊥ = omega arith in absurd z
tally_more m (x ∷ xs) zero h e = let t = tally_grows m xs in grind (arith, nat_tests)
tally_more m (x ∷ xs) (suc k) h e = let t = tally_more m xs k (omega arith) e in grind (arith, nat_tests)

module _ (g : Graph) (l : List ℕ) (long : 4096 ≤ length l) (ground : Ground g l) (settled : (p i : ℕ) → Pair g p i → Settled g l p i) where
  -- a mark above 1 has the mark below it one link on
  pub mark_steps : (p i m : ℕ) → Pair g p i → mark_in g l p i ≡ suc (suc m) → (q : ℕ) × (j : ℕ) × Leads g p i q j × (mark_in g l q j ≡ suc m)
  mark_steps p i m d e =
      let (q, j, k, some, less) = ground.more p i d (omega arith) in
      let b = ground.small p i d in
      let t = (settled p i d).linked q j k some (omega arith) in
      let t1 = t.1 in
      (q, j, k, omega arith)

  -- a pair's mark is among the first 4,096 numbers
  stands : (p i : ℕ) → Pair g p i → (k : ℕ) × (k < length (take 4096 l)) × (get_or (take 4096 l) k 0 ≡ mark_in g l p i)
  stands p i d =
      let n = length-take 4096 l in
      let h = number_inner g p i d in
      let t = total_room (widths_of g.layout) in
      (number_in g p i, omega arith, get_or-take 4096 l (number_in g p i) 0 (omega arith))

  -- a mark m + 1 has m others below it
  tally_mark : (m p i : ℕ) → Pair g p i → mark_in g l p i ≡ suc m → suc m ≤ tally (suc m) (take 4096 l)
  tally_mark zero p i d e =
      let (k, h, is) = stands p i d in
      let t = tally_more 0 (take 4096 l) k h (is ∙ e) in
      omega arith
  tally_mark (suc m) p i d e =
      let (q, j, s, is) = mark_steps p i m d e in
      let below = tally_mark m q j s.0 is in
      let (k, h, here) = stands p i d in
      let t = tally_more (suc m) (take 4096 l) k h (here ∙ e) in
      omega arith

  pub mark_small : (p i : ℕ) → Pair g p i → mark_in g l p i ≤ 4096
  mark_small p i d = ⊎_elim
      (λ (z : mark_in g l p i < 1). omega arith)
      (λ (z : 1 ≤ mark_in g l p i).
      let e : mark_in g l p i ≡ suc (mark_in g l p i - 1) = omega arith in
      let h = tally_mark (mark_in g l p i - 1) p i d e in
      let t = tally_length (suc (mark_in g l p i - 1)) (take 4096 l) in
      let n = length-take 4096 l in
      omega arith)
      (cases_lt (mark_in g l p i) 1)
