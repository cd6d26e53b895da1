-- The four colours: their letters and their numbers.
use Rattle.std.specs.Prelude.{◌≡◌, ℕ, Result, MatchResult, ◌≢◌}
use Rattle.alphabets.specs.declared.colours.Colour.{Colour}
use Rattle.alphabets.specs.declared.colours.Colour.TheVariants.{Red, Green, Blue, Yellow}
use Rattle.alphabets.specs.declared.colours.UnknownColour.{UnknownColour}

-- The byte that stands for a colour: `R` (82), `G` (71), `B` (66) or `Y` (89).
abbrev pub letter_of : Colour → ℕ
letter_of Red = 82
letter_of Green = 71
letter_of Blue = 66
letter_of Yellow = 89

abbrev pub number_of : Colour → ℕ
number_of Red = 0
number_of Green = 1
number_of Blue = 2
number_of Yellow = 3

-- The colour that a letter stands for, or that it stands for none.
abbrev pub Lettered : ℕ → Result Colour UnknownColour → Type 0
Lettered letter r = MatchResult r (λ c. letter ≡ letter_of c) (λ _. (c : Colour) → letter ≢ letter_of c)
