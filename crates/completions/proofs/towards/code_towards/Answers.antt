-- The first place that such a link leads to has a code; there is such a place.
use Rattle.std.proofs.Common.{rules, ◌≡◌, ℕ, ◌+◌, ◌<◌, ◌≤◌, Bool, true, false, MatchOption, arith}
use Rattle.std.proofs.lemmas.Iterator.{first_from_Range}
use Rattle.distances.specs.Marks.{mark_of}
use Rattle.completions.specs.Towards.{leading}
use Rattle.completions.proofs.Codes.{code_there, some_place}
use Rattle.completions.proofs.towards.code_towards.Goals as goal
use Rattle.completions.proofs.towards.code_towards.Goals.{After-find}

abbrev leads_at : (c : After-find) → ℕ → Bool
leads_at c q = leading c.args.table.now (mark_of c.args.marks.now) c.args.from.place c.args.from.count q c.args.from.distance

first : (c : After-find) → MatchOption c.find.result
    ((k : ℕ) → 1 ≤ k → k < c.places.result + 1 → leads_at c k ≡ false)
    (λ q. (1 ≤ q) × (q < c.places.result + 1) × (leads_at c q ≡ true) × ((k : ℕ) → 1 ≤ k → k < q → leads_at c k ≡ false))
first c =
    first_from_Range _ _ _ c.find.result (λ q. leads_at c q ≡ true) (λ q. leads_at c q ≡ false) c.find.ensures.ran
    (λ q f k. search rules) (λ q f k. search rules)

pub returns : goal.returns
returns c = λ e formed some table labels inside far mark.
    let at = rw c.in_ok-q.was at (first (goal.at.returns c).After-find) in
    code_there e c.args.table.now table (mark_of c.args.marks.now) c.args.from inside c.in_ok-q.q c.codes_at.result c.least.result some
    at.2 c.codes_at.ensures c.least.ensures

pub returns-in_err-q : goal.returns-in_err-q
returns-in_err-q c = λ e formed some table labels inside far mark.
    let none = rw c.in_err-q.was at (first (goal.at.returns-in_err-q c).After-find) in
    absurd (some_place e c.args.table.now table (mark_of c.args.marks.now) c.args.from inside labels far mark
    (λ k low high. let n = c.places.ensures in none k low (omega arith)))
