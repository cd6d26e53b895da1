-- The step of a front as a set of pairs, computed from a table by the moves that a bank makes along the links.
use Rattle.std.specs.Prelude.{ℕ, zero, suc, ◌+◌, Bool, false, ◌&&◌, ◌||◌, nat_le}
use Rattle.banks.specs.Pairs.{Pairs, only, moved, within, ◌∪◌, ◌∩◌}
use Rattle.widths.specs.Width.{width_of}
use Rattle.tables.specs.declared.table.Table.{Table}
use Rattle.tables.specs.Masks.{within as within_link, next as next_link, cross as cross_link}
use Rattle.tables.specs.Tables.{takes, links_of, low_of}

-- the test holds of some number below n
abbrev pub any_below : ℕ → (ℕ → Bool) → Bool
any_below zero test = false
any_below (suc n) test = test n || any_below n test

-- the set f has a count from lo to hi at p
abbrev pub seen : Pairs → ℕ → ℕ → ℕ → Bool
seen f p lo hi = any_below (hi + 1) (λ i. nat_le lo i && f p i)

-- the set s, or the empty set where the test fails
abbrev pub only_if : Bool → Pairs → Pairs
only_if test s = λ p i. test && s p i

-- What the links from p to q give of the set f: a within link carries the counts of p as they are, a next link raised by one,
-- and a cross link gives (q, 1) where f has a count at p from its low to its width.
abbrev pub along : Table → Pairs → ℕ → ℕ → Pairs
along t f p q =
    only_if (within_link (links_of t p q)) (moved f p q 0)
    ∪ (only_if (next_link (links_of t p q)) (moved f p q 1)
    ∪ only_if (cross_link (links_of t p q) && seen f p (low_of t p) (width_of t.widths p)) (only q 1))

-- What the links from p give at the places that take the code c. No link leads to the start.
abbrev pub leaving : Table → ℕ → Pairs → ℕ → Pairs
leaving t c f p = λ q j. (nat_le 1 q && (nat_le q t.places && takes t q c)) && along t f p q q j

-- What the links from the places below n give.
abbrev pub leaving_below : Table → ℕ → Pairs → ℕ → Pairs
leaving_below t c f n = λ q j. any_below n (λ p. leaving t c f p q j)

-- The step of the set f by the code c: what the links from all places give, within the widths.
abbrev pub step_set : Table → ℕ → Pairs → Pairs
step_set t c f = leaving_below t c f (t.places + 1) ∩ within (width_of t.widths)
