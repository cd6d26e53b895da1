-- A text that is too long, one that the grammar or a check refuses, and one that is accepted.
use Rattle.std.proofs.Common.{arith}
use Rattle.grammar.specs.Nodes.{ast_of}
use Rattle.syntax.proofs.Refused.{too_long, read_refused, check_refused, accepted}
use Rattle.syntax.proofs.read.parse.Goals as goal

pub returns-then-text-gt-LONGEST : goal.returns-then-text-gt-LONGEST
returns-then-text-gt-LONGEST c = too_long c.args.alphabet c.args.text.now (omega arith)

pub returns-in_err-tree : goal.returns-in_err-tree
returns-in_err-tree c =
    read_refused c.args.alphabet c.args.text.now c.from_residual.result c.in_err-tree.field-0.0 (omega arith) c.from_residual.ensures.1 c.in_err-tree.ensures

pub returns-in_err-check : goal.returns-in_err-check
returns-in_err-check c =
    let h = c.in_ok-tree.ensures in
    check_refused c.args.alphabet c.args.text.now (ast_of c.in_ok-tree.tree) h.0 (omega arith) c.from_residual-in_err-check.result c.in_err-check.field-0.0 c.from_residual-in_err-check.ensures.1 c.in_err-check.ensures

pub returns : goal.returns
returns c =
    let h = c.in_ok-tree.ensures in
    accepted c.args.alphabet c.args.text.now (ast_of c.in_ok-tree.tree) h.0 (omega arith) h.1 c.in_ok-check.ensures
