-- The places of a pattern, which of them are firsts and lasts, what each one holds, and its low and width.
--
-- Each set of the pattern is a place, numbered from 1 in the order of the text; place 0 is the start.
-- A part whose places begin behind o has the places o + 1 to o + size. The whole pattern begins behind 0.
use Rattle.std.specs.Prelude.{◌≡◌, ℕ, suc, ◌+◌, Bool, true, false, cond, ◌&&◌, ◌||◌, T, ◌⊎◌, ◌==◌, nat_le, nat_lt}
use Rattle.automata.specs.Language.{Tree, empty, unit, cat, alt, star, plus, opt, rep}

-- How many places a part has.
abbrev pub size : Tree → ℕ
size empty = 0
size (unit S) = 1
size (cat a b) = size a + size b
size (alt a b) = size a + size b
size (star a) = size a
size (plus a) = size a
size (opt a) = size a
size (rep lo hi a) = size a

-- The part's language has the empty row.
-- A sequence needs both parts nullable, alternatives one of them; a counted repeat needs low 0 or a nullable body.
abbrev pub nullable : Tree → Bool
nullable empty = true
nullable (unit S) = false
nullable (cat a b) = nullable a && nullable b
nullable (alt a b) = nullable a || nullable b
nullable (star a) = true
nullable (plus a) = nullable a
nullable (opt a) = true
nullable (rep lo hi a) = lo == 0 || nullable a

-- p can take the first symbol of a row of the part.
-- In a sequence that is a first of the first part and, where that part is nullable, also one of the second.
abbrev pub First : Tree → ℕ → ℕ → Type 0
First empty o p = ⊥
First (unit S) o p = p ≡ suc o
First (cat a b) o p = First a o p ⊎ (T (nullable a) × First b (o + size a) p)
First (alt a b) o p = First a o p ⊎ First b (o + size a) p
First (star a) o p = First a o p
First (plus a) o p = First a o p
First (opt a) o p = First a o p
First (rep lo hi a) o p = First a o p

-- p can take the last symbol of a row of the part.
-- In a sequence that is a last of the second part and, where that part is nullable, also one of the first.
abbrev pub Last : Tree → ℕ → ℕ → Type 0
Last empty o p = ⊥
Last (unit S) o p = p ≡ suc o
Last (cat a b) o p = Last b (o + size a) p ⊎ (T (nullable b) × Last a o p)
Last (alt a b) o p = Last a o p ⊎ Last b (o + size a) p
Last (star a) o p = Last a o p
Last (plus a) o p = Last a o p
Last (opt a) o p = Last a o p
Last (rep lo hi a) o p = Last a o p

-- The set at the place p holds the code s.
abbrev pub Holds : Tree → ℕ → ℕ → ℕ → Type 0
Holds empty o p s = ⊥
Holds (unit S) o p s = (p ≡ suc o) × T (S s)
Holds (cat a b) o p s = Holds a o p s ⊎ Holds b (o + size a) p s
Holds (alt a b) o p s = Holds a o p s ⊎ Holds b (o + size a) p s
Holds (star a) o p s = Holds a o p s
Holds (plus a) o p s = Holds a o p s
Holds (opt a) o p s = Holds a o p s
Holds (rep lo hi a) o p s = Holds a o p s

-- The low of the place p, the least count with which its repeat may be left:
-- inside a counted repeat the repeat's low, or 0 where the repeat's body is nullable; 1 for any other place, the start too.
abbrev pub low : Tree → ℕ → ℕ → ℕ
low empty o p = 1
low (unit S) o p = 1
low (cat a b) o p = cond (nat_le p (o + size a)) (low a o p) (low b (o + size a) p)
low (alt a b) o p = cond (nat_le p (o + size a)) (low a o p) (low b (o + size a) p)
low (star a) o p = low a o p
low (plus a) o p = low a o p
low (opt a) o p = low a o p
low (rep lo hi a) o p = cond (nat_lt o p && nat_le p (o + size a)) (cond (nullable a) 0 lo) 1

-- The width of the place p, its greatest count: inside a counted repeat the repeat's high; 1 for any other place, the start too.
abbrev pub width : Tree → ℕ → ℕ → ℕ
width empty o p = 1
width (unit S) o p = 1
width (cat a b) o p = cond (nat_le p (o + size a)) (width a o p) (width b (o + size a) p)
width (alt a b) o p = cond (nat_le p (o + size a)) (width a o p) (width b (o + size a) p)
width (star a) o p = width a o p
width (plus a) o p = width a o p
width (opt a) o p = width a o p
width (rep lo hi a) o p = cond (nat_lt o p && nat_le p (o + size a)) hi 1
