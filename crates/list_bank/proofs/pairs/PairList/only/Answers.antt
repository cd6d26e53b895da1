use Rattle.std.proofs.Common.{ℕ, List, ◌∷◌, ◌++◌, [], length, ap, ◌∙◌, arith}
use Rattle.std.proofs.lemmas.Bool.Decides.{nat_tests}
use Rattle.banks.proofs.Sets.{same_pairs}
use Rattle.list_bank.specs.Listed.{listed}
use Rattle.list_bank.proofs.pairs.PairList.only.Goals as goal

pub returns : goal.returns
unfolding listed
returns c =
    ap (λ (xs : List (ℕ × ℕ)). listed xs (length xs)) (c.push.ensures.items ∙ ap (λ (xs : List (ℕ × ℕ)). xs ++ (c.args.p, c.args.i) ∷ []) c.new-pairs.ensures)
    ∙ same_pairs _ _ (λ a j. grind (arith, nat_tests))
