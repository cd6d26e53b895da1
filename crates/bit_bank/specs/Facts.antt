-- The two facts about what a bit bank can hold: here, since the bank gives them with its meaning.
use Rattle.std.proofs.Common.{arith}
use Rattle.banks.specs.Meaning.{Facts}
use Rattle.bit_bank.specs.Means.{bit_means}

pub bit_facts : Facts bit_means
bit_facts = record { empty = λ b s p i e. grind arith; fewer = λ b s t k st h p i e. h p i (st p i e) }
