use Rattle.std.proofs.Common.{rules}
use Rattle.completions.specs.Answers.{HintOf, Tells}
use Rattle.completions.proofs.hints.hint_of.Goals as goal

pub returns-clause-answer : goal.returns-clause-answer
returns-clause-answer g c = λ full fresh e w formed some table front.
    let (marks, found, distances, least, told) = c.measured.ensures.told full fresh in
    let right : Tells HintOf c.args.table.now marks.now found c.measured.result = search rules in
    right (g.B.Bank.means.front c.args.bank.now) (least e table) distances e w formed some table front
