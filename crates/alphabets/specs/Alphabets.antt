-- The two alphabets: their names, and how long their units are.
use Rattle.std.specs.Prelude.{◌≡◌, ℕ, List, codes, Result, MatchResult, ◌≢◌}
use Rattle.alphabets.specs.declared.Alphabet.{Alphabet}
use Rattle.alphabets.specs.declared.Alphabet.TheVariants.{Letters, Tiles}
use Rattle.alphabets.specs.declared.UnknownAlphabet.{UnknownAlphabet}

-- The word that names an alphabet.
abbrev pub word_of : Alphabet → List ℕ
word_of Letters = codes "letters"
word_of Tiles = codes "tiles"

-- how many bytes a unit has
abbrev pub unit_of : Alphabet → ℕ
unit_of Letters = 1
unit_of Tiles = 2

-- The alphabet that a word names, or that it names none.
abbrev pub Names : List ℕ → Result Alphabet UnknownAlphabet → Type 0
Names word r = MatchResult r (λ a. word ≡ word_of a) (λ _. (a : Alphabet) → word ≢ word_of a)
