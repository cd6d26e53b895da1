-- Lists of pairs, their order, and sets that a short list has.
use Rattle.std.specs.Prelude.{◌≡◌, ℕ, zero, suc, ◌+◌, ◌*◌, ◌≤◌, true, false, ◌&&◌, ◌||◌, List, length, ◌==◌, slice_index_or}
use Rattle.banks.specs.Pairs.{Pairs}

-- by its rank a pair stands in the order of place and then count: counts have 16 bits
abbrev pub rank : ℕ × ℕ → ℕ
rank x = 65536 * x.0 + x.1

-- (p, i) is one of the first n pairs of the list
unfoldable pub listed : List (ℕ × ℕ) → ℕ → Pairs
listed xs zero p i = false
listed xs (suc n) p i = ((slice_index_or xs n (0, 0)).0 == p && (slice_index_or xs n (0, 0)).1 == i) || listed xs n p i

-- a set of at most 256 pairs: some list of at most 256 pairs has every pair of it
abbrev pub Short : Pairs → Type 0
Short s = (xs : List (ℕ × ℕ)) × (length xs ≤ 256) × ((p i : ℕ) → s p i ≡ true → listed xs (length xs) p i ≡ true)
