-- Rows of symbols of any kind, and the bytes that spell them.
use Rattle.std.specs.Prelude.{◌≡◌, ℕ, ◌<◌, true, false, ◌⊎◌, List, ◌++◌, map, length, take, ◌≢◌, slice_index_or}
use Rattle.std.specs.List.{flat_map, AllByRecursion}
use Rattle.refusals.specs.declared.Refusal.TheVariants.{Symbol, Memory}
use Rattle.symbols.specs.declared.kind.Kind.{Ghosts}
use Rattle.symbol_rows.specs.declared.row.RowRefusal.{RowRefusal}

module _ {K S : Type 0} (k : Ghosts K S) where
  -- The bytes of a symbol's unit.
  abbrev pub unit_of : S → List ℕ
  unit_of s = take k.unit_length (k.spelled s)

  -- Every value of the row is a symbol.
  abbrev pub AllSymbols : List S → Type 0
  AllSymbols row = AllByRecursion (λ s. k.valid s ≡ true) row

  -- The units of the row's symbols, one after another.
  abbrev pub spelling : List S → List ℕ
  spelling row = flat_map unit_of row

  -- The codes of the row's symbols.
  abbrev pub codes_of : List S → List ℕ
  codes_of row = map k.code row

  -- The bytes spell the row.
  abbrev pub Spells : List ℕ → List S → Type 0
  Spells bytes row = AllSymbols row × (spelling row ≡ bytes)

  -- The bytes begin with the units of n symbols, and what comes then, which is not nothing, begins with no symbol's unit.
  abbrev pub BrokenAfter : List ℕ → ℕ → Type 0
  BrokenAfter bytes n =
      (row : List S) × (rest : List ℕ)
      × (length row ≡ n) × AllSymbols row × (bytes ≡ spelling row ++ rest) × (0 < length rest)
      × ((s : S) (more : List ℕ) → k.valid s ≡ true → unit_of s ++ more ≢ rest)

  -- The first n values of the row are symbols, and the next one is none.
  abbrev pub NoSymbolAfter : List S → ℕ → Type 0
  NoSymbolAfter row n = (n < length row) × AllSymbols (take n row) × ((d : S) → k.valid (slice_index_or row n d) ≡ false)

  -- Reading bytes was refused with this: for want of memory, or at the first unit that is none.
  abbrev pub ReadRefused : List ℕ → RowRefusal → Type 0
  ReadRefused bytes e = (e.refusal ≡ Memory) ⊎ ((e.refusal ≡ Symbol) × BrokenAfter bytes e.before)

  -- Going over a row was refused with this: for want of memory, or at the first value that is no symbol.
  abbrev pub RowRefused : List S → RowRefusal → Type 0
  RowRefused row e = (e.refusal ≡ Memory) ⊎ ((e.refusal ≡ Symbol) × NoSymbolAfter row e.before)
