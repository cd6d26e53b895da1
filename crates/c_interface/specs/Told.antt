-- What the exported functions write and answer.
use Rattle.std.specs.Prelude.{◌≡◌, ℕ, ◌+◌, ◌<◌, ◌≤◌, false, ◌⊎◌, List, length, take, slice_index}
use Rattle.symbols.specs.contracts.letters.LettersKind.TheImpl.{ghosts as letters}
use Rattle.symbol_rows.specs.Rows.{AllSymbols, NoSymbolAfter}
use Rattle.alphabets.specs.declared.Alphabet.TheVariants.{Letters}
use Rattle.refusals.specs.declared.Refusal.{Refusal}
use Rattle.plans.specs.Plans.{RefusedText}
use Rattle.sessions.specs.RowLanguage.{Belongs, NeedIs, IsStuck}
use Rattle.par_report.specs.Pars.{IsAccepted}

-- A byte tells of a row: 1 where it belongs to the language of the text, else 0.
abbrev pub Tells : List ℕ → List ℕ → ℕ → Type 0
Tells text row b = ((b ≡ 1) × Belongs letters text row) ⊎ ((b ≡ 0) × (Belongs letters text row → ⊥))

-- n letters of the row were laid, and the bytes old became new: the byte behind each letter tells of the row up to it, and the others stay.
-- There were no more letters, there was no more room, or the next one is no letter.
pub record FitsTold (text row old new : List ℕ) (n : ℕ) : Type 0 where
  pub laid : n ≤ length row
  pub room : n ≤ length old
  pub symbols : AllSymbols letters (take n row)
  pub told : (k : ℕ) → k < n → Tells text (take (k + 1) row) (slice_index new k)
  pub rest : (k : ℕ) → n ≤ k → slice_index new k ≡ slice_index old k
  pub ended : (n ≡ length row) ⊎ ((n ≡ length old) ⊎ (letters.valid (slice_index row n) ≡ false))

-- What is written and answered of a text: as above where it is accepted; else, or where memory is wanting, nothing is laid or written.
abbrev pub FitsAnswered : List ℕ → List ℕ → List ℕ → List ℕ → ℕ → Type 0
FitsAnswered text row old new n = (IsAccepted text × FitsTold text row old new n) ⊎ ((n ≡ 0) × (new ≡ old))

-- There is no need to answer: the text is refused, or memory was wanting; or a byte of the row is no letter; or the row is stuck.
abbrev pub NoNeed : List ℕ → List ℕ → Type 0
NoNeed text row = ((r : Refusal) × RefusedText Letters text r) ⊎ (((k : ℕ) × NoSymbolAfter letters row k) ⊎ IsStuck letters text row)

-- What is answered of the need of a row: the need, or 4,294,967,295 where there is none.
abbrev pub NeedAnswered : List ℕ → List ℕ → ℕ → Type 0
NeedAnswered text row n = (IsAccepted text × NeedIs letters text row n) ⊎ ((n ≡ 4294967295) × NoNeed text row)
