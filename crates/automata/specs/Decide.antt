-- The relations once more as tests that compute, for tables and worked examples. Each is named as its relation, with a b.
use Rattle.std.specs.Prelude.{ℕ, suc, ◌+◌, Bool, true, false, ◌&&◌, ◌||◌, ◌==◌, nat_le, nat_lt}
use Rattle.automata.specs.Language.{Tree, empty, unit, cat, alt, star, plus, opt, rep}
use Rattle.automata.specs.Places.{size, nullable, low, width}

-- There is no counted repeat in the pattern.
abbrev pub flatb : Tree → Bool
flatb empty = true
flatb (unit S) = true
flatb (cat a b) = flatb a && flatb b
flatb (alt a b) = flatb a && flatb b
flatb (star a) = flatb a
flatb (plus a) = flatb a
flatb (opt a) = flatb a
flatb (rep lo hi a) = false

-- Every counted repeat has its bounds in order, a high of at least 1, and a body without counted repeats.
abbrev pub well_formedb : Tree → Bool
well_formedb empty = true
well_formedb (unit S) = true
well_formedb (cat a b) = well_formedb a && well_formedb b
well_formedb (alt a b) = well_formedb a && well_formedb b
well_formedb (star a) = well_formedb a
well_formedb (plus a) = well_formedb a
well_formedb (opt a) = well_formedb a
well_formedb (rep lo hi a) = nat_le lo hi && (nat_le 1 hi && flatb a)

-- p is a first of the part.
abbrev pub firstb : Tree → ℕ → ℕ → Bool
firstb empty o p = false
firstb (unit S) o p = p == suc o
firstb (cat a b) o p = firstb a o p || nullable a && firstb b (o + size a) p
firstb (alt a b) o p = firstb a o p || firstb b (o + size a) p
firstb (star a) o p = firstb a o p
firstb (plus a) o p = firstb a o p
firstb (opt a) o p = firstb a o p
firstb (rep lo hi a) o p = firstb a o p

-- p is a last of the part.
abbrev pub lastb : Tree → ℕ → ℕ → Bool
lastb empty o p = false
lastb (unit S) o p = p == suc o
lastb (cat a b) o p = lastb b (o + size a) p || nullable b && lastb a o p
lastb (alt a b) o p = lastb a o p || lastb b (o + size a) p
lastb (star a) o p = lastb a o p
lastb (plus a) o p = lastb a o p
lastb (opt a) o p = lastb a o p
lastb (rep lo hi a) o p = lastb a o p

-- The set at p holds the code s.
abbrev pub holdsb : Tree → ℕ → ℕ → ℕ → Bool
holdsb empty o p s = false
holdsb (unit S) o p s = p == suc o && S s
holdsb (cat a b) o p s = holdsb a o p s || holdsb b (o + size a) p s
holdsb (alt a b) o p s = holdsb a o p s || holdsb b (o + size a) p s
holdsb (star a) o p s = holdsb a o p s
holdsb (plus a) o p s = holdsb a o p s
holdsb (opt a) o p s = holdsb a o p s
holdsb (rep lo hi a) o p s = holdsb a o p s

-- p and q meet in the part.
abbrev pub meetb : Tree → ℕ → ℕ → ℕ → Bool
meetb empty o p q = false
meetb (unit S) o p q = false
meetb (cat a b) o p q = (meetb a o p q || meetb b (o + size a) p q) || lastb a o p && firstb b (o + size a) q
meetb (alt a b) o p q = meetb a o p q || meetb b (o + size a) p q
meetb (star a) o p q = meetb a o p q || lastb a o p && firstb a o q
meetb (plus a) o p q = meetb a o p q || lastb a o p && firstb a o q
meetb (opt a) o p q = meetb a o p q
meetb (rep lo hi a) o p q = meetb a o p q

-- p and q meet inside the body of a counted repeat.
abbrev pub withinb : Tree → ℕ → ℕ → ℕ → Bool
withinb empty o p q = false
withinb (unit S) o p q = false
withinb (cat a b) o p q = withinb a o p q || withinb b (o + size a) p q
withinb (alt a b) o p q = withinb a o p q || withinb b (o + size a) p q
withinb (star a) o p q = withinb a o p q
withinb (plus a) o p q = withinb a o p q
withinb (opt a) o p q = withinb a o p q
withinb (rep lo hi a) o p q = meetb a o p q

-- p is a last and q a first of one counted repeat's body.
abbrev pub nextb : Tree → ℕ → ℕ → ℕ → Bool
nextb empty o p q = false
nextb (unit S) o p q = false
nextb (cat a b) o p q = nextb a o p q || nextb b (o + size a) p q
nextb (alt a b) o p q = nextb a o p q || nextb b (o + size a) p q
nextb (star a) o p q = nextb a o p q
nextb (plus a) o p q = nextb a o p q
nextb (opt a) o p q = nextb a o p q
nextb (rep lo hi a) o p q = nextb a o p q || lastb a o p && firstb a o q

-- p and q meet inside no counted repeat's body.
abbrev pub crossb : Tree → ℕ → ℕ → ℕ → Bool
crossb empty o p q = false
crossb (unit S) o p q = false
crossb (cat a b) o p q = (crossb a o p q || crossb b (o + size a) p q) || lastb a o p && firstb b (o + size a) q
crossb (alt a b) o p q = crossb a o p q || crossb b (o + size a) p q
crossb (star a) o p q = crossb a o p q || lastb a o p && firstb a o q
crossb (plus a) o p q = crossb a o p q || lastb a o p && firstb a o q
crossb (opt a) o p q = crossb a o p q
crossb (rep lo hi a) o p q = false

-- A link of the part takes (p, i) to (q, j). Here and below the tests on the counts, which are cheap, stand first.
abbrev pub takesb : Tree → ℕ → ℕ → ℕ → ℕ → ℕ → Bool
takesb e o p i q j =
    (j == i && withinb e o p q) ||
    ((j == suc i && (nat_lt i (width e o p) && nextb e o p q)) ||
    (j == 1 && (nat_le (low e o p) i && crossb e o p q)))

-- A link of the whole pattern takes (p, i) to (q, j).
abbrev pub linkb : Tree → ℕ → ℕ → ℕ → ℕ → Bool
linkb e p i q j = takesb e 0 p i q j || p == 0 && (j == 1 && (nat_le 1 i && firstb e 0 q))

-- The pair (p, i) accepts.
abbrev pub acceptsb : Tree → ℕ → ℕ → Bool
acceptsb e p i = (p == 0 && (i == 1 && nullable e)) || lastb e 0 p && nat_le (low e 0 p) i
