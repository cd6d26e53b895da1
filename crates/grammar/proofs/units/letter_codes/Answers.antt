-- The set of a letter and that of `.`.
use Rattle.std.proofs.Common.{sym, ap, ◌∙◌, arith}
use mathlib.Core.Path.{fun_ext}
use Rattle.grammar.specs.Codes.{codes_of_letter}
use Rattle.grammar.proofs.Spelling.{any_letter, one_letter, not_dot}
use Rattle.grammar.proofs.units.letter_codes.Goals as goal

pub returns-in-46 : goal.returns-in-46
returns-in-46 c = fun_ext (λ k. c.below.ensures k ∙ any_letter k ∙ ap (λ b. codes_of_letter b k) (sym c.in-46.is))

pub returns-in_default : goal.returns-in_default
returns-in_default c = fun_ext (λ k. c.only.ensures k ∙ one_letter c.args.b k (not_dot c.requires (λ x. omega arith)))
