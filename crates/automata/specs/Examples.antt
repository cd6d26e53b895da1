-- Worked examples: patterns as trees, rows, and what holds of each, in one table.
use Rattle.std.specs.Prelude.{◌≡◌, ℕ, zero, suc, ◌&&◌, ◌||◌, ltb, ◌⊎◌, ◌↔◌, List, [], ◌∷◌, ◌==◌, nat_eq, nat_le, nat_lt}
use Rattle.std.specs.List.{AllByRecursion}
use Rattle.automata.specs.Language.{Tree, unit, cat, alt, star, opt, rep, In}
use Rattle.automata.specs.Step.{Stands}
use Rattle.automata.specs.Completion.{Need, Stuck}

-- A letter, by its code: 0 for `a` to 25 for `z`.
abbrev pub letter : ℕ → Tree
letter n = unit (λ c. nat_eq c n)

-- `.`, every letter.
abbrev pub any_letter : Tree
any_letter = unit (λ c. ltb c 26)

-- .*a.{3}b
abbrev pub a_four_before_the_end : Tree
a_four_before_the_end = cat (cat (cat (star any_letter) (letter 0)) (rep 3 3 any_letter)) (letter 1)

-- (a|aa){5}
abbrev pub five_ones_or_twos : Tree
five_ones_or_twos = rep 5 5 (alt (letter 0) (cat (letter 0) (letter 0)))

-- (a?){2,3}
abbrev pub two_or_three_optional : Tree
two_or_three_optional = rep 2 3 (opt (letter 0))

-- (a{2})*
abbrev pub pairs_of_a : Tree
pairs_of_a = star (rep 2 2 (letter 0))

-- R.{2}[B1G.] over tiles, whose code is 10 × colour + face with the colours R, G, B, Y from 0: two red tiles, then B1 or a green one.
abbrev pub two_reds : Tree
two_reds = cat (rep 2 2 (unit (λ c. ltb c 10))) (unit (λ c. (c == 21) || nat_le 10 c && nat_lt c 20))

-- What an example says of its row: its front is these pairs, it fits, it needs so many symbols, it is stuck.
pub data Said : Type 0 where
  front : List (ℕ × ℕ) → Said
  fits : Said
  needs : ℕ → Said
  stuck : Said

-- The pair (p, i) is in the list.
abbrev pub Listed : List (ℕ × ℕ) → ℕ → ℕ → Type 0
Listed [] p i = ⊥
Listed (x ∷ xs) p i = ((p ≡ x.0) × (i ≡ x.1)) ⊎ Listed xs p i

-- What is said holds of the pattern and the row.
abbrev pub Means : Tree → List ℕ → Said → Type 0
Means e w (front xs) = (p i : ℕ) → (Stands e w p i ↔ Listed xs p i)
Means e w fits = In e w
Means e w (needs n) = Need e w n
Means e w stuck = Stuck e w

-- A pattern, a row, and what is said of them.
pub record Example : Type 0 where
  pub pattern : Tree
  pub row : List ℕ
  pub said : Said

-- One line of the table.
abbrev pub example : Tree → List ℕ → Said → Example
example e w s = record { pattern = e; row = w; said = s }

-- n letters `a`.
abbrev pub letters_a : ℕ → List ℕ
letters_a zero = []
letters_a (suc n) = 0 ∷ letters_a n

-- The table of worked examples.
abbrev pub table : List Example
table =
    -- aa, and aaxx, where place 3 has the counts 2 and 3, and aaxxb
    example a_four_before_the_end (0 ∷ 0 ∷ []) (front ((1, 1) ∷ (2, 1) ∷ (3, 1) ∷ [])) ∷
    example a_four_before_the_end (0 ∷ 0 ∷ []) (needs 3) ∷
    example a_four_before_the_end (0 ∷ 0 ∷ 23 ∷ 23 ∷ []) (front ((1, 1) ∷ (3, 2) ∷ (3, 3) ∷ [])) ∷
    example a_four_before_the_end (0 ∷ 0 ∷ 23 ∷ 23 ∷ 1 ∷ []) fits ∷
    example five_ones_or_twos (letters_a 5) fits ∷
    example five_ones_or_twos (letters_a 10) fits ∷
    example five_ones_or_twos (letters_a 4) (needs 1) ∷
    example five_ones_or_twos (letters_a 11) stuck ∷
    example two_or_three_optional [] fits ∷
    example two_or_three_optional (letters_a 1) fits ∷
    example two_or_three_optional (letters_a 4) stuck ∷
    example pairs_of_a (letters_a 4) fits ∷
    example pairs_of_a (letters_a 3) (needs 1) ∷
    -- R4 R9 G0, R4, and R4 G0
    example two_reds (4 ∷ 9 ∷ 10 ∷ []) fits ∷
    example two_reds (4 ∷ []) (needs 2) ∷
    example two_reds (4 ∷ 10 ∷ []) stuck ∷
    []

-- What every example of the table says holds.
abbrev pub ExamplesHold : Type 0
ExamplesHold = AllByRecursion (λ x. Means x.pattern x.row x.said) table
