-- The two facts about what a list bank can hold: here, since the bank gives them with its meaning.
use Rattle.std.specs.Prelude.{◌≤◌, []}
use Rattle.std.proofs.Common.{arith}
use Rattle.banks.specs.Meaning.{Facts}
use Rattle.list_bank.specs.Means.{list_means}

pub list_facts : Facts list_means
list_facts = record {
  empty = λ b k. ([], (let z : 0 ≤ 256 = omega arith in z), (λ p i e. grind arith));
  fewer = λ b s t k st h. (h.0, h.1, (λ p i e. h.2 p i (st p i e)));
}
