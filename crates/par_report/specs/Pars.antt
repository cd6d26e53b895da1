-- What is answered of a letters pattern and a row of letters, in terms of the language of the pattern's text.
use Rattle.std.specs.Prelude.{◌≡◌, ℕ, ◌≤◌, ◌⊎◌, List, length, Some, None, Ok, Err, Decides, Option, Result}
use Rattle.refusals.specs.declared.Refusal.{Refusal}
use Rattle.refusals.specs.declared.Refusal.TheVariants.{Symbol}
use Rattle.refusals.specs.Numbering.{number_of, place_of}
use Rattle.grammar.specs.Ast.{Ast}
use Rattle.alphabets.specs.declared.Alphabet.TheVariants.{Letters}
use Rattle.syntax.specs.Refuses.{Refuses, Accepted}
use Rattle.symbols.specs.contracts.letters.LettersKind.TheImpl.{ghosts as letters}
use Rattle.symbol_rows.specs.Rows.{AllSymbols, NoSymbolAfter}
use Rattle.input.specs.Lines.{TwoLines}
use Rattle.sessions.specs.RowLanguage.{Belongs, NeedIs, IsStuck}
use Rattle.par_report.specs.declared.data.Par.{Par}
use Rattle.par_report.specs.declared.data.ParError.{ParError}
use Rattle.par_report.specs.declared.data.ParError.TheVariants.{Refused, Memory}

-- The text is an accepted pattern.
abbrev pub IsAccepted : List ℕ → Type 0
IsAccepted text = (t : Ast) × Accepted Letters text t

-- The need of a row, or that it is stuck.
abbrev pub NeedSaid : List ℕ → List ℕ → Option ℕ → Type 0
NeedSaid text row (Some n) = NeedIs letters text row n
NeedSaid text row None = IsStuck letters text row

-- The text is refused with this, at this byte.
abbrev pub TextRefused : List ℕ → Refusal → ℕ → Type 0
TextRefused text r place = Refuses Letters text r × (place_of r ≡ Some place)

-- The text is accepted, and the row is refused: 10, SYMBOL, where so many letters stand before one that is none.
abbrev pub RowRefused : List ℕ → List ℕ → Refusal → ℕ → Type 0
RowRefused text row r place = IsAccepted text × (r ≡ Symbol) × NoSymbolAfter letters row place

-- What is answered of a pattern text and a row; a refusal is told with its number. Memory may be wanting for a text of at most 512 bytes.
abbrev pub Judged : List ℕ → List ℕ → Result Par ParError → Type 0
Judged text row (Ok par) = IsAccepted text × AllSymbols letters row × Decides par.fits (Belongs letters text row) × NeedSaid text row par.need
Judged text row (Err (Refused r number place)) = (number_of r ≡ number) × (TextRefused text r place ⊎ RowRefused text row r place)
Judged text row (Err Memory) = length text ≤ 512

-- What is answered of an input of two lines, the text and the row.
abbrev pub Reported : List ℕ → Result Par ParError → Type 0
Reported input r = (text : List ℕ) × (row : List ℕ) × TwoLines input text row × Judged text row r
