-- The lines of a text.
use Rattle.std.specs.Prelude.{◌≡◌, ℕ, ◌⊎◌, List, [], ◌∷◌, ◌++◌, ◌≢◌}
use Rattle.std.specs.List.{AllByRecursion}

-- `first` is what stands before the first byte that is the mark, and `rest` what comes behind that byte; without such a byte all of it and nothing.
pub record Parted (mark : ℕ) (text first rest : List ℕ) : Type 0 where
  pub one : AllByRecursion (λ b. b ≢ mark) first
  pub splits : (text ≡ first ++ mark ∷ rest) ⊎ ((text ≡ first) × (rest ≡ []))

-- Byte 10 ends a line, and may be missing at the end of the text: `first` is the first line of `text`, and `rest` what comes behind it.
abbrev pub FirstLine : List ℕ → List ℕ → List ℕ → Type 0
FirstLine text first rest = Parted 10 text first rest

-- The first and the second line of a text. A missing line is empty.
abbrev pub TwoLines : List ℕ → List ℕ → List ℕ → Type 0
TwoLines text first second = (rest : List ℕ) × (more : List ℕ) × FirstLine text first rest × FirstLine rest second more
