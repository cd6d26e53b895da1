-- Worked examples: texts of patterns, and what holds of each, in one table.
use Rattle.std.specs.Prelude.{◌≡◌, ℕ, ◌+◌, ◌-◌, ◌*◌, ◌↔◌, List, [], ◌∷◌, Some, codes}
use Prim.Native.String.{String}
use Rattle.std.specs.List.{AllByRecursion}
use Rattle.automata.specs.Language.{Tree}
use Rattle.automata.specs.Step.{Stands}
use Rattle.automata.specs.Completion.{Need, Stuck}
use Rattle.automata.specs.Examples.{Listed, letters_a}
use Rattle.grammar.specs.Ast.{Ast}
use Rattle.grammar.specs.Codes.{colour_of}
use Rattle.alphabets.specs.declared.Alphabet.{Alphabet}
use Rattle.alphabets.specs.declared.Alphabet.TheVariants.{Letters, Tiles}
use Rattle.refusals.specs.Numbering.{number_of, place_of}
use Rattle.refusals.specs.declared.Refusal.{Refusal}
use Rattle.syntax.specs.Refuses.{Refuses, Accepted}
use Rattle.syntax.specs.TextLanguage.{tree_of, InText}

-- The codes of the letters that are written with these bytes: 0 for `a` to 25 for `z`.
abbrev pub letters_of : List ℕ → List ℕ
letters_of [] = []
letters_of (c ∷ s) = (c - 97) ∷ letters_of s

-- The codes of the tiles that are written with these bytes, two for each: ten times the colour and the face.
abbrev pub tiles_of : List ℕ → List ℕ
tiles_of [] = []
tiles_of (c ∷ []) = []
tiles_of (c ∷ d ∷ s) = (10 * colour_of c + (d - 48)) ∷ tiles_of s

-- What an example says of a text: the front after a row is these pairs, a row fits, a row needs so many symbols, a row is stuck,
-- or the text is refused by this number at this byte.
pub data Said : Type 0 where
  front : List ℕ → List (ℕ × ℕ) → Said
  fits : List ℕ → Said
  needs : List ℕ → ℕ → Said
  stuck : List ℕ → Said
  refused : ℕ → ℕ → Said

-- The text is accepted, and P holds of its tree.
abbrev pub AcceptedWith : Alphabet → List ℕ → (Tree → Type 0) → Type 0
AcceptedWith a s P = (t : Ast) × Accepted a s t × P (tree_of t)

-- What is said holds of the text: it is accepted and its tree has what is said, or it has the refusal with this number and place.
abbrev pub Means : Alphabet → List ℕ → Said → Type 0
Means a s (front w xs) = AcceptedWith a s (λ e. (p i : ℕ) → (Stands e w p i ↔ Listed xs p i))
Means a s (fits w) = AcceptedWith a s (λ e. InText a s w)
Means a s (needs w n) = AcceptedWith a s (λ e. Need e w n)
Means a s (stuck w) = AcceptedWith a s (λ e. Stuck e w)
Means a s (refused n p) = (r : Refusal) × Refuses a s r × (number_of r ≡ n) × (place_of r ≡ Some p)

-- An alphabet, the text of a pattern over it, and what is said of them.
pub record Example : Type 0 where
  pub alphabet : Alphabet
  pub text : List ℕ
  pub said : Said

-- One line of the table, of letters or of tiles.
abbrev pub letters : String → Said → Example
letters s said = record { alphabet = Letters; text = codes s; said = said }

abbrev pub tiles : String → Said → Example
tiles s said = record { alphabet = Tiles; text = codes s; said = said }

-- A row of letters, and a row of tiles, by how it is written.
abbrev pub letter_row : String → List ℕ
letter_row s = letters_of (codes s)

abbrev pub tile_row : String → List ℕ
tile_row s = tiles_of (codes s)

-- The table of worked examples.
abbrev pub table : List Example
table =
    letters ".*a.{3}b" (front (letter_row "aa") ((1, 1) ∷ (2, 1) ∷ (3, 1) ∷ [])) ∷
    letters ".*a.{3}b" (needs (letter_row "aa") 3) ∷
    -- one place with two counts
    letters ".*a.{3}b" (front (letter_row "aaxx") ((1, 1) ∷ (3, 2) ∷ (3, 3) ∷ [])) ∷
    letters ".*a.{3}b" (fits (letter_row "aaxxb")) ∷
    letters "(a|aa){5}" (fits (letters_a 5)) ∷
    letters "(a|aa){5}" (fits (letters_a 10)) ∷
    letters "(a|aa){5}" (needs (letters_a 4) 1) ∷
    letters "(a|aa){5}" (stuck (letters_a 11)) ∷
    letters "(a?){2,3}" (fits []) ∷
    letters "(a?){2,3}" (fits (letter_row "a")) ∷
    letters "(a?){2,3}" (stuck (letter_row "aaaa")) ∷
    letters "(a{2})*" (fits (letter_row "aaaa")) ∷
    letters "(a{2})*" (needs (letter_row "aaa") 1) ∷
    tiles "R.{2}[B1G.]" (fits (tile_row "R4R9G0")) ∷
    tiles "R.{2}[B1G.]" (needs (tile_row "R4") 2) ∷
    tiles "R.{2}[B1G.]" (stuck (tile_row "R4G0")) ∷
    -- a class that spells no letter
    letters "[^a-z]" (refused 5 0) ∷
    letters "[]" (refused 5 0) ∷
    -- a counted repeat inside another
    letters "(a{2}){3}" (refused 7 2) ∷
    -- a second quantifier, a group that is not closed, a bound without its high
    letters "a**" (refused 2 2) ∷
    letters "(a" (refused 3 2) ∷
    letters "a{3,}" (refused 2 4) ∷
    []

-- What every example of the table says holds.
abbrev pub ExamplesHold : Type 0
ExamplesHold = AllByRecursion (λ x. Means x.alphabet x.text x.said) table
