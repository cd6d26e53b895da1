-- The empty pattern is accepted.
use Rattle.std.proofs.Common.{ℕ, [], arith}
use Rattle.grammar.specs.Ast.{empty}
use Rattle.grammar.specs.Grammar.{IsPattern, last, none}
use Rattle.alphabets.specs.Alphabets.{unit_of}
use Rattle.alphabets.specs.declared.Alphabet.{Alphabet}
use Rattle.grammar.proofs.Whole.{one_tree}
use Rattle.syntax.specs.Refuses.{Accepted}
use Rattle.syntax.proofs.Refused.{accepted}

is_pattern : (u : ℕ) → IsPattern u [] empty
is_pattern u = last none

pub empty_accepted : (a : Alphabet) → Accepted a [] empty
empty_accepted a =
    accepted a [] empty (is_pattern (unit_of a)) (omega arith) (λ v h. one_tree (unit_of a) [] empty v (is_pattern (unit_of a)) h)
    ((λ p h. h), (λ p h. h), (λ p h. h), (λ p h. h), omega arith, omega arith)
