-- Sets of pairs of a place and a count. Equal sets are equal functions.
use Rattle.std.specs.Prelude.{◌≡◌, ℕ, ◌-◌, Bool, true, false, ◌&&◌, ◌||◌, ◌==◌, nat_le}

infixr 6 ◌∪◌
infixr 7 ◌∩◌
infix 4 ◌⊆◌
-- a set tells of each place and count whether the pair is in it
abbrev pub Pairs : Type 0
Pairs = ℕ → ℕ → Bool

-- the empty set
abbrev pub none : Pairs
none = λ p i. false

-- one pair alone
abbrev pub only : ℕ → ℕ → Pairs
only q j = λ p i. (p == q) && i == j

-- the pairs within the widths: the count is from 1 to the place's width
abbrev pub within : (ℕ → ℕ) → Pairs
within ws = λ p i. nat_le 1 i && nat_le i (ws p)

-- the pairs of either set
abbrev pub ◌∪◌ : Pairs → Pairs → Pairs
s ∪ t = λ p i. s p i || t p i

-- the pairs of both sets
abbrev pub ◌∩◌ : Pairs → Pairs → Pairs
s ∩ t = λ p i. s p i && t p i

-- each pair of the one is in the other
abbrev pub ◌⊆◌ : Pairs → Pairs → Type 0
s ⊆ t = (p i : ℕ) → s p i ≡ true → t p i ≡ true

-- for each count i of the set at p the pair (q, i + n)
abbrev pub moved : Pairs → ℕ → ℕ → ℕ → Pairs
moved s p q n = λ r j. (r == q) && (nat_le n j && s p (j - n))

-- no place has a width
abbrev pub no_widths : ℕ → ℕ
no_widths = λ p. 0
