-- The links between places: a set of them for every ordered pair, each within, next or cross.
use Rattle.std.specs.Prelude.{◌≡◌, ℕ, suc, ◌+◌, ◌<◌, ◌≤◌, ◌⊎◌}
use Rattle.automata.specs.Language.{Tree, empty, unit, cat, alt, star, plus, opt, rep}
use Rattle.automata.specs.Places.{size, First, Last, low, width}

-- p and q meet somewhere in the part: p is a last of X and q a first of Y, where Y stands after X in a branch with only
-- nullable pieces between (these leave p a last of what stands before Y); or p is a last and q a first of a body under `*` or `+`.
abbrev pub Meet : Tree → ℕ → ℕ → ℕ → Type 0
Meet empty o p q = ⊥
Meet (unit S) o p q = ⊥
Meet (cat a b) o p q = (Meet a o p q ⊎ Meet b (o + size a) p q) ⊎ (Last a o p × First b (o + size a) q)
Meet (alt a b) o p q = Meet a o p q ⊎ Meet b (o + size a) p q
Meet (star a) o p q = Meet a o p q ⊎ (Last a o p × First a o q)
Meet (plus a) o p q = Meet a o p q ⊎ (Last a o p × First a o q)
Meet (opt a) o p q = Meet a o p q
Meet (rep lo hi a) o p q = Meet a o p q

-- Within: p and q meet inside the body of a counted repeat.
abbrev pub Within : Tree → ℕ → ℕ → ℕ → Type 0
Within empty o p q = ⊥
Within (unit S) o p q = ⊥
Within (cat a b) o p q = Within a o p q ⊎ Within b (o + size a) p q
Within (alt a b) o p q = Within a o p q ⊎ Within b (o + size a) p q
Within (star a) o p q = Within a o p q
Within (plus a) o p q = Within a o p q
Within (opt a) o p q = Within a o p q
Within (rep lo hi a) o p q = Meet a o p q

-- Next: p is a last and q a first of one counted repeat's body.
abbrev pub Next : Tree → ℕ → ℕ → ℕ → Type 0
Next empty o p q = ⊥
Next (unit S) o p q = ⊥
Next (cat a b) o p q = Next a o p q ⊎ Next b (o + size a) p q
Next (alt a b) o p q = Next a o p q ⊎ Next b (o + size a) p q
Next (star a) o p q = Next a o p q
Next (plus a) o p q = Next a o p q
Next (opt a) o p q = Next a o p q
Next (rep lo hi a) o p q = Next a o p q ⊎ (Last a o p × First a o q)

-- Cross: one of the meetings of p and q, whatever the others, lies inside no counted repeat's body.
abbrev pub Cross : Tree → ℕ → ℕ → ℕ → Type 0
Cross empty o p q = ⊥
Cross (unit S) o p q = ⊥
Cross (cat a b) o p q = (Cross a o p q ⊎ Cross b (o + size a) p q) ⊎ (Last a o p × First b (o + size a) q)
Cross (alt a b) o p q = Cross a o p q ⊎ Cross b (o + size a) p q
Cross (star a) o p q = Cross a o p q ⊎ (Last a o p × First a o q)
Cross (plus a) o p q = Cross a o p q ⊎ (Last a o p × First a o q)
Cross (opt a) o p q = Cross a o p q
Cross (rep lo hi a) o p q = ⊥

-- A link of the part takes the pair (p, i) to (q, j). Within: count i goes to i. Next: i goes to i + 1 where i is below
-- the width of p. Cross: i goes to 1 where i is at least the low of p. One pair of places may have all three.
abbrev pub Takes : Tree → ℕ → ℕ → ℕ → ℕ → ℕ → Type 0
Takes e o p i q j =
    (Within e o p q × (j ≡ i)) ⊎
    ((Next e o p q × (i < width e o p) × (j ≡ suc i)) ⊎
    (Cross e o p q × (low e o p ≤ i) × (j ≡ 1)))

-- A link of the whole pattern takes (p, i) to (q, j): one of the links above, or the cross link that the start,
-- whose low is 1, has to every first of the pattern.
abbrev pub Link : Tree → ℕ → ℕ → ℕ → ℕ → Type 0
Link e p i q j = Takes e 0 p i q j ⊎ ((p ≡ 0) × First e 0 q × (1 ≤ i) × (j ≡ 1))
