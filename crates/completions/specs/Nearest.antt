-- The pair of a set with the least mark, 0 apart.
use Rattle.std.specs.Prelude.{◌≡◌, ℕ, suc, ◌≤◌, Bool, true, ◌&&◌, ◌||◌, ◌⊎◌, Some, None, Option, ◌==◌, nat_le, nat_lt}
use Rattle.banks.specs.Pairs.{Pairs}
use Rattle.completions.specs.declared.nearest.Found.{Found}

-- The pairs of f before (p, i): at a place below p, or at p with a count below i.
abbrev pub before : Pairs → ℕ → ℕ → Pairs
before f p i = λ a b. f a b && (nat_lt a p || a == p && nat_lt b i)

-- A pair with this mark is nearer than what was found before.
abbrev pub improving : Option Found → ℕ → Bool
improving None mark = nat_lt 0 mark
improving (Some x) mark = nat_lt 0 mark && nat_le mark x.distance

-- What was found is the pair of s whose mark is least, 0 apart, with one less as its distance; nothing where all marks are 0. M is the marks.
abbrev pub LeastMark : (ℕ → ℕ → ℕ) → Pairs → Option Found → Type 0
LeastMark M s None = (p i : ℕ) → s p i ≡ true → M p i ≡ 0
LeastMark M s (Some x) =
    (s x.place x.count ≡ true) × (M x.place x.count ≡ suc x.distance)
    × ((p i : ℕ) → s p i ≡ true → (M p i ≡ 0) ⊎ (suc x.distance ≤ M p i))
