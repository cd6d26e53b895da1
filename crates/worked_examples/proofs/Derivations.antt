-- The derivations of the texts of the table, each with its tree. That a byte is the one meant is seen by computing.
use Rattle.std.proofs.Common.{◌≡◌, ℕ, ◌+◌, ◌-◌, T, leb, List, codes, refl, inl, inr, lit≤}
use Rattle.grammar.specs.Ast.{Ast, empty, cat, leaf, counted}
use Rattle.grammar.specs.Codes.{Letter, codes_of_letter, codes_of_tile}
use Rattle.grammar.specs.Grammar.{byte, OneUnit, Number, Quantifier, Branch, Piece, Atom, IsPattern, letter, tile, nothing, range, tiles, done, number, exactly, between, any, maybe, with_bound, last, more, none, then, once, often, one_unit, members, others, group}

-- ---- the parts that come often

-- the byte c is a letter
pub is_letter_lem : (c : ℕ) → T (leb 97 c) → T (leb c 122) → Letter c
is_letter_lem c x y = (lit≤ x, lit≤ y)

-- `a`, `b` and `.`
pub an_a : {s : List ℕ} {i : ℕ} → byte s i ≡ 97 → Atom 1 s i (i + 1) (leaf i (codes_of_letter 97))
an_a e = one_unit (letter refl e (inr (is_letter_lem 97 tt tt)))

pub a_b : {s : List ℕ} {i : ℕ} → byte s i ≡ 98 → Atom 1 s i (i + 1) (leaf i (codes_of_letter 98))
a_b e = one_unit (letter refl e (inr (is_letter_lem 98 tt tt)))

pub a_dot : {s : List ℕ} {i : ℕ} → byte s i ≡ 46 → Atom 1 s i (i + 1) (leaf i (codes_of_letter 46))
a_dot e = one_unit (letter refl e (inl refl))

-- `R.`, `B1` and `G.`
pub any_red : {s : List ℕ} {i : ℕ} → byte s i ≡ 82 → byte s (i + 1) ≡ 46 → OneUnit 2 s i (i + 2) (codes_of_tile 82 46)
any_red e f = tile refl e (inr (inr (inr (inl refl)))) f (inl refl)

pub blue_one : {s : List ℕ} {i : ℕ} → byte s i ≡ 66 → byte s (i + 1) ≡ 49 → OneUnit 2 s i (i + 2) (codes_of_tile 66 49)
blue_one e f = tile refl e (inr (inl refl)) f (inr (lit≤ tt, lit≤ tt))

pub any_green : {s : List ℕ} {i : ℕ} → byte s i ≡ 71 → byte s (i + 1) ≡ 46 → OneUnit 2 s i (i + 2) (codes_of_tile 71 46)
any_green e f = tile refl e (inr (inr (inl refl))) f (inl refl)

-- a number of one digit, by its byte
pub a_digit : {s : List ℕ} {i : ℕ} (c : ℕ) → T (leb 48 c) → T (leb c 57) → byte s i ≡ c → Number s i (i + 1) (c - 48)
a_digit c x y e = number e (lit≤ x, lit≤ y) done

pub a_two : {s : List ℕ} {i : ℕ} → byte s i ≡ 50 → Number s i (i + 1) 2
a_two = a_digit 50 tt tt

pub a_three : {s : List ℕ} {i : ℕ} → byte s i ≡ 51 → Number s i (i + 1) 3
a_three = a_digit 51 tt tt

pub a_five : {s : List ℕ} {i : ℕ} → byte s i ≡ 53 → Number s i (i + 1) 5
a_five = a_digit 53 tt tt

-- `{` a number `}`
pub times : {s : List ℕ} {i j n : ℕ} → byte s i ≡ 123 → Number s (i + 1) j n → byte s j ≡ 125 → Quantifier s i (j + 1) (counted i n n)
times e d f = with_bound (exactly e d f)

-- a branch of one piece
pub only : {u : ℕ} {s : List ℕ} {i j : ℕ} {t : Ast} → Piece u s i j t → Branch u s i j (cat t empty)
only p = then p none

-- The text is a pattern, and this is its tree.
abbrev pub Derived : ℕ → List ℕ → Type 0
Derived u s = (t : Ast) × IsPattern u s t

-- ---- texts that are accepted

abbrev pub a_four_before_the_end : Derived 1 (codes ".*a.{3}b")
a_four_before_the_end = (
  _,
  last
      (then (often (a_dot refl) (any refl))
      (then (once (an_a refl))
      (then (often (a_dot refl) (times refl (a_three refl) refl))
      (only (once (a_b refl)))))),
)

abbrev pub five_ones_or_twos : Derived 1 (codes "(a|aa){5}")
five_ones_or_twos = (
  _,
  last
      (only (often
      (group refl (more (only (once (an_a refl))) refl (last (then (once (an_a refl)) (only (once (an_a refl)))))) refl)
      (times refl (a_five refl) refl))),
)

abbrev pub two_or_three_optional : Derived 1 (codes "(a?){2,3}")
two_or_three_optional = (
  _,
  last
      (only (often
      (group refl (last (only (often (an_a refl) (maybe refl)))) refl)
      (with_bound (between refl (a_two refl) refl (a_three refl) refl)))),
)

abbrev pub pairs_of_a : Derived 1 (codes "(a{2})*")
pairs_of_a = (
  _,
  last
      (only (often
      (group refl (last (only (often (an_a refl) (times refl (a_two refl) refl)))) refl)
      (any refl))),
)

abbrev pub two_reds : Derived 2 (codes "R.{2}[B1G.]")
two_reds = (
  _,
  last
      (then (often (one_unit (any_red refl refl)) (times refl (a_two refl) refl))
      (only (once (members refl (tiles refl (blue_one refl refl) (tiles refl (any_green refl refl) nothing)) refl)))),
)

-- ---- texts that are refused for what they spell

abbrev pub no_letter : Derived 1 (codes "[^a-z]")
no_letter = (
  _,
  last (only (once (others refl refl (range refl refl (is_letter_lem 97 tt tt) refl refl (is_letter_lem 122 tt tt) nothing) refl))),
)

abbrev pub no_body : Derived 1 (codes "[]")
no_body = (_, last (only (once (members refl nothing refl))))

abbrev pub counted_inside : Derived 1 (codes "(a{2}){3}")
counted_inside = (
  _,
  last
      (only (often
      (group refl (last (only (often (an_a refl) (times refl (a_two refl) refl)))) refl)
      (times refl (a_three refl) refl))),
)
