-- What a pattern may not have, each fault with the byte that it is told by, and which of them stands leftmost.
use Rattle.std.specs.Prelude.{◌≡◌, ℕ, ◌+◌, ◌-◌, ◌<◌, ◌≤◌, false, cond, ◌⊎◌, List, [], ◌∷◌, ◌++◌, length, Some, None, Ok, Err, Option, Result, nat_le, slice_index}
use Rattle.refusals.specs.declared.Refusal.{Refusal}
use Rattle.refusals.specs.declared.Refusal.TheVariants.{Places}
use Rattle.grammar.specs.Ast.{Ast, empty, leaf, class, cat, alt, repeat, star, plus, opt, counted}

-- a range whose first letter stands at p runs backwards, and it is the first such range of its class
abbrev pub BackwardAt : Ast → ℕ → Type 0
BackwardAt empty p = ⊥
BackwardAt (leaf at codes) p = ⊥
BackwardAt (class at codes back) p = back ≡ Some p
BackwardAt (cat a b) p = BackwardAt a p ⊎ BackwardAt b p
BackwardAt (alt a b) p = BackwardAt a p ⊎ BackwardAt b p
BackwardAt (repeat q a) p = BackwardAt a p

-- a class whose `[` stands at p spells no code
abbrev pub EmptyAt : Ast → ℕ → Type 0
EmptyAt empty p = ⊥
EmptyAt (leaf at codes) p = ⊥
EmptyAt (class at codes back) p = (p ≡ at) × ((k : ℕ) → codes k ≡ false)
EmptyAt (cat a b) p = EmptyAt a p ⊎ EmptyAt b p
EmptyAt (alt a b) p = EmptyAt a p ⊎ EmptyAt b p
EmptyAt (repeat q a) p = EmptyAt a p

-- a counted repeat whose `{` stands at p has a high of 0 or above 1,000, or a low that exceeds its high
abbrev pub BoundsAt : Ast → ℕ → Type 0
BoundsAt empty p = ⊥
BoundsAt (leaf at codes) p = ⊥
BoundsAt (class at codes back) p = ⊥
BoundsAt (cat a b) p = BoundsAt a p ⊎ BoundsAt b p
BoundsAt (alt a b) p = BoundsAt a p ⊎ BoundsAt b p
BoundsAt (repeat star a) p = BoundsAt a p
BoundsAt (repeat plus a) p = BoundsAt a p
BoundsAt (repeat opt a) p = BoundsAt a p
BoundsAt (repeat (counted at low high) a) p = BoundsAt a p ⊎ ((p ≡ at) × ((high ≡ 0) ⊎ ((1000 < high) ⊎ (high < low))))

-- the `{` of a counted repeat stands at p
abbrev pub CountedAt : Ast → ℕ → Type 0
CountedAt empty p = ⊥
CountedAt (leaf at codes) p = ⊥
CountedAt (class at codes back) p = ⊥
CountedAt (cat a b) p = CountedAt a p ⊎ CountedAt b p
CountedAt (alt a b) p = CountedAt a p ⊎ CountedAt b p
CountedAt (repeat star a) p = CountedAt a p
CountedAt (repeat plus a) p = CountedAt a p
CountedAt (repeat opt a) p = CountedAt a p
CountedAt (repeat (counted at low high) a) p = CountedAt a p ⊎ (p ≡ at)

-- the same of a counted repeat inside the body of another
abbrev pub NestedAt : Ast → ℕ → Type 0
NestedAt empty p = ⊥
NestedAt (leaf at codes) p = ⊥
NestedAt (class at codes back) p = ⊥
NestedAt (cat a b) p = NestedAt a p ⊎ NestedAt b p
NestedAt (alt a b) p = NestedAt a p ⊎ NestedAt b p
NestedAt (repeat star a) p = NestedAt a p
NestedAt (repeat plus a) p = NestedAt a p
NestedAt (repeat opt a) p = NestedAt a p
NestedAt (repeat (counted at low high) a) p = CountedAt a p

-- the places of a pattern in the order of the text, each by its first byte
abbrev pub places_of : Ast → List ℕ
places_of empty = []
places_of (leaf at codes) = at ∷ []
places_of (class at codes back) = at ∷ []
places_of (cat a b) = places_of a ++ places_of b
places_of (alt a b) = places_of a ++ places_of b
places_of (repeat q a) = places_of a

-- P holds at p, and nowhere before
abbrev pub Leftmost : (ℕ → Type 0) → ℕ → Type 0
Leftmost P p = P p × ((q : ℕ) → P q → p ≤ q)

-- P holds at no place
abbrev pub Nowhere : (ℕ → Type 0) → Type 0
Nowhere P = (p : ℕ) → P p → ⊥

-- what a search for the leftmost P answers
abbrev pub Finds : (ℕ → Type 0) → Option ℕ → Type 0
Finds P None = Nowhere P
Finds P (Some p) = Leftmost P p

-- the smaller of two places, where there are any
abbrev pub least : Option ℕ → Option ℕ → Option ℕ
least None b = b
least (Some p) None = Some p
least (Some p) (Some q) = cond (nat_le p q) (Some p) (Some q)

-- with so many places before, these make so many in all and at most 64, or this is where the 65th stands
abbrev pub UpTo64 : ℕ → List ℕ → Result ℕ Refusal → Type 0
UpTo64 seen ls (Ok k) = (k ≡ seen + length ls) × (k ≤ 64)
UpTo64 seen ls (Err refusal) = (64 < seen + length ls) × (refusal ≡ Places (slice_index ls (64 - seen)))
