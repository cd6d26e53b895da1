-- A table that was made from a text.
use Rattle.std.specs.Prelude.{ℕ, List}
use Rattle.grammar.specs.Ast.{Ast}
use Rattle.alphabets.specs.declared.Alphabet.{Alphabet}
use Rattle.syntax.specs.Refuses.{Accepted}
use Rattle.syntax.specs.TextLanguage.{tree_of}
use Rattle.tables.specs.Tables.{TableOf}
use Rattle.tables.specs.declared.table.Table.{Table}

-- The text is accepted, and the table is that of its tree.
pub record TableFrom (a : Alphabet) (text : List ℕ) (table : Table) : Type 0 where
  pub tree : Ast
  pub accepted : Accepted a text tree
  pub fields : TableOf (tree_of tree) table

-- Some accepted text has this table.
abbrev pub Made : Table → Type 0
Made table = (a : Alphabet) × (text : List ℕ) × TableFrom a text table
