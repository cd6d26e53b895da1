-- What is said of a row of any kind.
use Rattle.std.specs.Prelude.{◌≡◌, ℕ, List, Ok, Err, vec_items, Result}
use Rattle.symbols.specs.declared.kind.Kind.{Ghosts}
use Rattle.symbol_rows.specs.declared.row.RowRefusal.{RowRefusal}
use Rattle.symbol_rows.specs.Rows.{Spells, codes_of, ReadRefused}
use Rattle.row_report.specs.declared.Row.{Row}

module _ {K S : Type 0} (k : Ghosts K S) where
  -- The bytes spell a row: its codes, and the bytes themselves, spelled from its symbols. Or they spell none.
  abbrev pub Described : List ℕ → Result Row RowRefusal → Type 0
  Described bytes (Ok d) = (row : List S) × Spells k bytes row × (vec_items d.codes ≡ codes_of k row) × (vec_items d.spelled ≡ bytes)
  Described bytes (Err e) = ReadRefused k bytes e
