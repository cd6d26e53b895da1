use Rattle.std.proofs.Common.{◌≡◌, rules, tests}
use Rattle.std.proofs.lemmas.Iterator.{IsFirst-from_position, YieldsList-from_slice}
use Rattle.input.proofs.Splits.{parted_at, parted_none}
use Rattle.input.proofs.split_once.Goals as goal

pub returns-in-Some : goal.returns-in-Some
returns-in-Some c =
    let mark = c.args.mark in
    let (inside, here, before) =
    IsFirst-from_position _ _ _ (λ b. b ≡ mark) (λ b. b ≡ mark → ⊥) c.in-Some.ensures.ran (YieldsList-from_slice c.args.text.now cc) (λ x q k. search (rules, tests)) (λ x q k. search (rules, tests)) in
    parted_at mark c.args.text.now c.in-Some.end inside here before

pub returns-in-None : goal.returns-in-None
returns-in-None c =
    let mark = c.args.mark in
    parted_none mark c.args.text.now
    (IsFirst-from_position _ _ _ (λ b. b ≡ mark) (λ b. b ≡ mark → ⊥) c.in-None.ensures.ran (YieldsList-from_slice c.args.text.now cc) (λ x q k. search (rules, tests)) (λ x q k. search (rules, tests)))
