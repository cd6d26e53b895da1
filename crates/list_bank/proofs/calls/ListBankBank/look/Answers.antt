use Rattle.std.proofs.Common.{rules, ◌≡◌, ℕ, ◌<◌, ◌≤◌, Bool, true, false, Decides, Result, Ok, Err, sym, subst, arith}
use Rattle.std.specs.Result.{MatchResult, OkIff}
use Rattle.list_bank.specs.declared.pairs.PairList.{PairList}
use Rattle.list_bank.specs.Means.{pairs_of}
use Rattle.list_bank.proofs.Inserts.{look_past}
use Rattle.list_bank.proofs.calls.ListBankBank.look.Goals as goal

-- the list tells it at a place of 8 bits, and there is no pair at a place past those
told : {E : Type 0} (l : PairList) (p low high : ℕ) (place : Result ℕ E) (r : Bool) → OkIff place (p < 256) p
    → MatchResult place (λ a. Decides r ((i : ℕ) × (low ≤ i) × (i ≤ high) × (pairs_of l a i ≡ true))) (λ _. r ≡ false)
    → Decides r ((i : ℕ) × (low ≤ i) × (i ≤ high) × (pairs_of l p i ≡ true))
told l p low high (Ok a) r is found = subst (λ (q : ℕ). Decides r ((i : ℕ) × (low ≤ i) × (i ≤ high) × (pairs_of l q i ≡ true))) is.1 found
told l p low high (Err _) r far none = subst (λ (b : Bool). Decides b ((i : ℕ) × (low ≤ i) × (i ≤ high) × (pairs_of l p i ≡ true))) (sym none) (look_past l p low high (omega (arith, far)))

pub returns : goal.returns
returns c = λ _. told c.args.self.now.front c.args.p c.args.low c.args.high c.try_from.result c.is_ok_and.result c.try_from.ensures (search rules)
