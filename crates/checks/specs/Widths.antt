-- What the widths of a pattern's places add to.
use Rattle.std.specs.Prelude.{ℕ, zero, suc, ◌+◌, Some, None, Option}
use Rattle.automata.specs.Language.{Tree}
use Rattle.automata.specs.Places.{size, width}
use Rattle.grammar.specs.Ast.{Ast, empty, leaf, class, cat, alt, repeat, star, plus, opt, counted}

-- the sum of f over the n numbers behind o
abbrev pub sum_behind : (ℕ → ℕ) → ℕ → ℕ → ℕ
sum_behind f o zero = 0
sum_behind f o (suc n) = sum_behind f o n + f (o + suc n)

-- the widths of all places, the start's with them
abbrev pub widths_of : Tree → ℕ
widths_of e = width e 0 0 + sum_behind (width e 0) 0 (size e)

-- Of a tree with byte places: what its places take where each takes w,
abbrev pub widths_at : ℕ → Ast → ℕ
widths_at w empty = 0
widths_at w (leaf at codes) = w
widths_at w (class at codes back) = w
widths_at w (cat a b) = widths_at w a + widths_at w b
widths_at w (alt a b) = widths_at w a + widths_at w b
widths_at w (repeat q a) = widths_at w a

-- and where each takes its width: inside a counted repeat the repeat's high, else 1.
abbrev pub widths_in : Ast → ℕ
widths_in empty = 0
widths_in (leaf at codes) = 1
widths_in (class at codes back) = 1
widths_in (cat a b) = widths_in a + widths_in b
widths_in (alt a b) = widths_in a + widths_in b
widths_in (repeat star a) = widths_in a
widths_in (repeat plus a) = widths_in a
widths_in (repeat opt a) = widths_in a
widths_in (repeat (counted at low high) a) = widths_at high a

-- the same of a part: where a counted repeat around it has a width for each place, and else where none has
abbrev pub widths_by : Option ℕ → Ast → ℕ
widths_by None t = widths_in t
widths_by (Some w) t = widths_at w t
