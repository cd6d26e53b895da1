use Rattle.std.proofs.Common.{sym, subst, rules}
use Rattle.grammar.specs.Nodes.{ast_of}
use Rattle.checks.specs.Faults.{Finds}
use Rattle.checks.specs.Searches.{InParts, Says}
use Rattle.checks.proofs.Searches.{least_or, alone, whole, no_parts, pair_parts}
use Rattle.checks.proofs.leftmost.+leftmost.Goals as goal

pub returns-in-Break : goal.returns-in-Break
returns-in-Break g t c = λ f told. subst (Says f (ast_of c.args.n.now)) c.in-Break.is (told c.args.n.now c.fault.result (search rules))

pub returns-in_default : goal.returns-in_default
returns-in_default g t c = λ f told.
    let shows = subst (Says f (ast_of c.args.n.now)) c.in-Continue.is (told c.args.n.now c.fault.result (search rules)) in
    alone f _ _ (no_parts c.args.n.now c.in_default.not-Cat c.in_default.not-Alt c.in_default.not-Repeat f) shows

pub returns-in-Repeat : goal.returns-in-Repeat
returns-in-Repeat g t c = λ f told.
    let shows = subst (Says f (ast_of c.args.n.now)) c.in-Continue.is (told c.args.n.now c.fault.result (search rules)) in
    let inner = rw c.deref.ensures at c.leftmost.ensures f told in
    rw c.earlier.ensures (whole f _ _ _ shows (subst (λ v. Finds (InParts f (ast_of v)) c.leftmost.result) (sym c.in-Repeat.is) inner))

pub returns-in-Cat : goal.returns-in-Cat
returns-in-Cat g t c = λ f told.
    let shows = subst (Says f (ast_of c.args.n.now)) c.in-Continue.is (told c.args.n.now c.fault.result (search rules)) in
    let left = rw c.deref-in-Cat.ensures at c.leftmost-in-Cat.ensures f told in
    let right = rw c.deref-in-Cat-2.ensures at c.leftmost-in-Cat-2.ensures f told in
    rw (c.earlier-in-Cat-2.ensures, c.earlier-in-Cat.ensures) (whole f _ _ _ shows (pair_parts c.in-Cat.is f _ (least_or _ _ _ _ left right)))
