-- What the report says of an input of two lines: the kind's name, and a row.
use Rattle.std.specs.Prelude.{◌≡◌, ℕ, List, Ok, Err, Result, ◌≢◌}
use Rattle.alphabets.specs.declared.Alphabet.{Alphabet}
use Rattle.alphabets.specs.declared.Alphabet.TheVariants.{Letters, Tiles}
use Rattle.alphabets.specs.Alphabets.{word_of}
use Rattle.input.specs.Lines.{TwoLines}
use Rattle.symbol_rows.specs.declared.row.RowRefusal.{RowRefusal}
use Rattle.symbols.specs.contracts.letters.LettersKind.TheImpl.{ghosts as letters}
use Rattle.symbols.specs.contracts.tiles.TilesKind.TheImpl.{ghosts as tiles}
use Rattle.row_report.specs.declared.Report.{Report}
use Rattle.row_report.specs.declared.ReportError.{ReportError}
use Rattle.row_report.specs.declared.ReportError.TheVariants.{Refused, UnknownKind}
use Rattle.row_report.specs.declared.Row.{Row}
use Rattle.row_report.specs.Described.{Described}

-- What is said of the second line under each kind.
abbrev pub DescribedAs : Alphabet → List ℕ → Result Row RowRefusal → Type 0
DescribedAs Letters bytes r = Described letters bytes r
DescribedAs Tiles bytes r = Described tiles bytes r

abbrev pub Says : List ℕ → List ℕ → Result Report ReportError → Type 0
Says first second (Ok d) = (first ≡ word_of d.kind) × DescribedAs d.kind second (Ok d.row)
Says first second (Err (Refused e)) = (kind : Alphabet) × (first ≡ word_of kind) × DescribedAs kind second (Err e)
Says first second (Err UnknownKind) = (kind : Alphabet) → first ≢ word_of kind

abbrev pub Reports : List ℕ → Result Report ReportError → Type 0
Reports input r = (first : List ℕ) × (second : List ℕ) × TwoLines input first second × Says first second r
