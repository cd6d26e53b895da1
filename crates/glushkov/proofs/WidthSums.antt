-- The sum of a list of widths is that of the places' widths.
use Rattle.std.proofs.Common.{◌≡◌, ℕ, zero, suc, ◌+◌, ◌-◌, ◌≤◌, cond, leb, List, length, get_or, take, sum, sym, ap, ◌∙◌, add-one, arith}
use Rattle.std.proofs.lemmas.List.{take_all}
use Rattle.std.proofs.lemmas.List.Sums.{sum_by_more}
use Rattle.std.proofs.lemmas.Bool.Decides.{nat_tests}
use Rattle.checks.specs.Widths.{sum_behind}

module _ (xs : List ℕ) (f : ℕ → ℕ) (n : ℕ) (long : length xs ≡ 65) (few : n ≤ 64) (is : (p : ℕ) → get_or xs p 0 ≡ cond (leb p n) (f p) 0) where
  -- Up to the place k, which there is.
  sum_front : (k : ℕ) → k ≤ n → sum (take (k + 1) xs) ≡ f 0 + sum_behind f 0 k
  sum_front zero h =
      let more = sum_by_more (λ x. x) xs 0 0 (omega arith) in
      let here : get_or xs 0 0 ≡ f 0 = (let e = is 0 in grind (arith, nat_tests)) in
      omega (arith, more, here)
  sum_front (suc k) h =
      let more : sum (take (suc k + 1) xs) ≡ sum (take (suc k) xs) + get_or xs (suc k) 0 = sum_by_more (λ x. x) xs (suc k) 0 (omega arith) in
      let before : sum (take (suc k) xs) ≡ f 0 + sum_behind f 0 k = ap (λ m. sum (take m xs)) (sym (add-one k)) ∙ sum_front k (omega arith) in
      let here : get_or xs (suc k) 0 ≡ f (0 + suc k) = (let e = is (suc k) in let z : f (suc k) ≡ f (0 + suc k) = ap f (omega arith) in grind (arith, nat_tests)) in
      omega (arith, more, before, here)

  -- Behind the last place, where there are no widths.
  sum_behind_lem : (k : ℕ) → n + 1 + k ≤ 65 → sum (take (n + 1 + k) xs) ≡ sum (take (n + 1) xs)
  sum_behind_lem zero h = ap (λ m. sum (take m xs)) (omega arith)
  sum_behind_lem (suc k) h =
      let more = sum_by_more (λ x. x) xs (n + 1 + k) 0 (omega arith) in
      let here : get_or xs (n + 1 + k) 0 ≡ 0 = (let e = is (n + 1 + k) in grind (arith, nat_tests)) in
      let at : sum (take (n + 1 + suc k) xs) ≡ sum (take (n + 1 + k + 1) xs) = ap (λ m. sum (take m xs)) (omega arith) in
      omega (arith, more, here, at, sum_behind_lem k (omega arith))

  pub sum_widths : sum xs ≡ f 0 + sum_behind f 0 n
  sum_widths =
      let all : sum (take (n + 1 + (64 - n)) xs) ≡ sum xs = ap sum (take_all (n + 1 + (64 - n)) xs (omega arith)) in
      omega (arith, all, sum_behind_lem (64 - n) (omega arith), sum_front n (omega arith))
