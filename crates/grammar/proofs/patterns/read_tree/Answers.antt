-- The pattern from the first byte on covers the whole text, or the text is refused.
use Rattle.std.proofs.Common.{subst, arith}
use Rattle.grammar.specs.Ast.{Ast}
use Rattle.grammar.specs.Grammar.{Pattern, IsPattern}
use Rattle.grammar.specs.Nodes.{ast_of}
use Rattle.alphabets.specs.Alphabets.{unit_of}
use Rattle.grammar.specs.Reading.{AfterPattern, Read, Faults}
use Rattle.grammar.proofs.Exits.{told}
use Rattle.grammar.proofs.Whole.{one_tree, too_many}
use Rattle.grammar.proofs.patterns.read_tree.Goals as goal

pub returns-in_err-tree : goal.returns-in_err-tree
returns-in_err-tree c =
    let s = c.args.text.now in
    let e = c.in_err-tree.field-0.0 in
    let h = subst (λ u. Faults Ast (Pattern u) AfterPattern s 0 e) c.unit_length.ensures.0 c.in_err-tree.ensures in
    told c.args.alphabet s c.from_residual.result e c.from_residual.ensures.1 h

pub returns-then-p-text : goal.returns-then-p-text
returns-then-p-text c =
    let k = c.in_ok-tree in
    let r = subst (λ u. Read Ast (Pattern u) AfterPattern c.args.text.now 0 0 k.p (ast_of k.tree)) c.unit_length.ensures.0 k.ensures in
    too_many r c.if-p-text.true

pub returns-else-p-text : goal.returns-else-p-text
returns-else-p-text c =
    let s = c.args.text.now in
    let u = unit_of c.args.alphabet in
    let k = c.in_ok-tree in
    let n = ast_of k.tree in
    let r = subst (λ v. Read Ast (Pattern v) AfterPattern s 0 0 k.p n) c.unit_length.ensures.0 k.ensures in
    let d : IsPattern u s n = subst (λ q. Pattern u s 0 q n) (omega (arith, r.inside)) r.derives in
    (d, λ t e. one_tree u s n t d e)
