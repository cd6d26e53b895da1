-- Some number below a bound that a test holds of, and what a look tells.
use Rattle.std.proofs.Common.{◌≡◌, ℕ, ◌+◌, ◌<◌, ◌≤◌, Bool, true, ◌&&◌, ◌||◌, leb, Decides, refl, add-one, arith}
use Rattle.std.proofs.lemmas.Bool.{and_parts, and_from, leb-true, le-leb}
use Rattle.std.proofs.lemmas.Bool.Decides.{Decides-below_or, Decides-like, same_from_decides}
use Rattle.banks.specs.Pairs.{Pairs}
use Rattle.steps.specs.StepSet.{any_below, seen}

-- some number below n passes the test
pub any_decides : (n : ℕ) (test : ℕ → Bool) → Decides (any_below n test) ((k : ℕ) × (k < n) × (test k ≡ true))
any_decides n test =
    Decides-below_or test (λ k. test k ≡ true) (λ k. any_below k test) (λ k. ((λ h. h), (λ h. h))) refl (λ _. refl) n

-- one more number
pub any_more : (n : ℕ) (test : ℕ → Bool) → any_below (n + 1) test ≡ (test n || any_below n test)
any_more n test = rw add-one refl

-- a set has a count from lo to hi at p
abbrev pub Seen : Pairs → ℕ → ℕ → ℕ → Type 0
Seen f p lo hi = (i : ℕ) × (lo ≤ i) × (i ≤ hi) × (f p i ≡ true)

pub seen_decides : (f : Pairs) (p lo hi : ℕ) → Decides (seen f p lo hi) (Seen f p lo hi)
seen_decides f p lo hi = Decides-like (seen f p lo hi)
    (λ x. let (i, below, h) = x in
    let parts = and_parts (leb lo i) (f p i) h in
    (i, leb-true lo i parts.0, omega arith, parts.1))
    (λ x. let (i, a, b, h) = x in (i, omega arith, and_from (leb lo i) (f p i) (le-leb lo i a) h))
    (any_decides (hi + 1) (λ i. leb lo i && f p i))

-- the answer of a look is the test
pub look_is_seen : (f : Pairs) (p lo hi : ℕ) (r : Bool) → Decides r (Seen f p lo hi) → r ≡ seen f p lo hi
look_is_seen f p lo hi r h = same_from_decides r (seen f p lo hi) h (seen_decides f p lo hi)
