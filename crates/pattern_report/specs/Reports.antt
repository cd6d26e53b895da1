-- What the report says of an input of two lines: the kind's name, and a pattern.
use Rattle.std.specs.Prelude.{◌≡◌, ℕ, List, Ok, Err, Result, ◌≢◌}
use Rattle.alphabets.specs.declared.Alphabet.{Alphabet}
use Rattle.input.specs.Lines.{TwoLines}
use Rattle.plans.specs.Plans.{RefusedText}
use Rattle.descriptions.specs.Describes.{Describes}
use Rattle.alphabets.specs.Alphabets.{word_of}
use Rattle.pattern_report.specs.declared.data.Report.{Report}
use Rattle.pattern_report.specs.declared.data.ReportError.{ReportError}
use Rattle.pattern_report.specs.declared.data.ReportError.TheVariants.{Refused, UnknownKind}

-- The first line names a kind, and the second is described or refused as a pattern of it; or the first line names none.
abbrev pub Says : List ℕ → List ℕ → Result Report ReportError → Type 0
Says first second (Ok r) = (first ≡ word_of r.described.kind) × Describes r.described.kind second r.described
Says first second (Err (Refused text e)) = (a : Alphabet) × (first ≡ word_of a) × (text.now ≡ second) × RefusedText a second e
Says first second (Err UnknownKind) = (a : Alphabet) → first ≢ word_of a

abbrev pub Reports : List ℕ → Result Report ReportError → Type 0
Reports input r = (first : List ℕ) × (second : List ℕ) × TwoLines input first second × Says first second r
