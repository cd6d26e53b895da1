use Rattle.std.proofs.Common.{rules}
use Rattle.grammar.specs.Ast.{empty}
use Rattle.alphabets.specs.declared.Alphabet.TheVariants.{Letters, Tiles}
use Rattle.syntax.specs.TextLanguage.{tree_of}
use Rattle.tables.specs.Tables.{TableOf}
use Rattle.plans.proofs.EmptyPattern.{empty_accepted}
use Rattle.plans.proofs.texts.empty_table.Goals as goal

pub returns : goal.returns
returns c =
    let made : TableOf (tree_of empty) c.unwrap.result = search rules in
    record {
      letters = record { tree = empty; accepted = empty_accepted Letters; fields = made };
      tiles = record { tree = empty; accepted = empty_accepted Tiles; fields = made };
    }
