-- The tree of a pattern. It keeps the byte places that refusals point at.
use Rattle.std.specs.Prelude.{ℕ, Option}
use Rattle.grammar.specs.Codes.{Codes}

-- how often a part comes: `*`, `+`, `?`, or from a low to a high
pub data Repetition : Type 0 where
  star : Repetition
  plus : Repetition
  opt : Repetition
  -- the place of its `{`, its low and its high
  counted : ℕ → ℕ → ℕ → Repetition

pub data Ast : Type 0 where
  -- an empty branch
  empty : Ast
  -- a unit: the place of its first byte, and the codes that it spells
  leaf : ℕ → Codes → Ast
  -- a class: the place of its `[`, the codes that it spells, and the first letter of its first range that runs backwards
  class : ℕ → Codes → Option ℕ → Ast
  -- one part after another
  cat : Ast → Ast → Ast
  -- one part or the other
  alt : Ast → Ast → Ast
  repeat : Repetition → Ast → Ast
