-- Which rows of symbols belong to the language of a text, and what completes a row.
use Rattle.std.specs.Prelude.{◌≡◌, ℕ, suc, List, [], ◌∷◌, ◌++◌, length}
use Rattle.automata.specs.Completion.{Least}
use Rattle.syntax.specs.TextLanguage.{InText}
use Rattle.symbols.specs.declared.kind.Kind.{Ghosts}
use Rattle.symbol_rows.specs.Rows.{AllSymbols, codes_of}
use Rattle.plans.specs.Plans.{alphabet_of}

module _ {K S : Type 0} (k : Ghosts K S) (text : List ℕ) where
  -- The row belongs to the language of the text: its values are symbols, and their codes are in the language.
  abbrev pub Belongs : List S → Type 0
  Belongs row = AllSymbols k row × InText (alphabet_of k) text (codes_of k row)

  -- Some completion has n symbols: joined to the end of the row it gives a row of the language.
  abbrev pub CompletedBy : List S → ℕ → Type 0
  CompletedBy row n = (v : List S) × (length v ≡ n) × Belongs (row ++ v)

  -- The need of the row is n: some completion has n symbols, and none has fewer.
  abbrev pub NeedIs : List S → ℕ → Type 0
  NeedIs row n = Least (CompletedBy row) n

  -- The row is stuck: it has no completion.
  abbrev pub IsStuck : List S → Type 0
  IsStuck row = (v : List S) → Belongs (row ++ v) → ⊥

  -- The symbol is a hint: with it at the end of the row the need is smaller by one.
  abbrev pub IsHint : List S → S → Type 0
  IsHint row x = (n : ℕ) × NeedIs row (suc n) × NeedIs (row ++ (x ∷ [])) n
