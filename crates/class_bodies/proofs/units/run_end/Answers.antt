-- All before the first that is not in the set are in the set.
use Rattle.std.proofs.Common.{◌≡◌, ℕ, ◌<◌, ◌≤◌, Bool, true, false, None, Some, Option, rules}
use Rattle.std.specs.Option.{MatchOption, unwrap_or}
use Rattle.std.proofs.lemmas.Iterator.{first_from_Range}
use Rattle.bits.specs.Members.{member}
use Rattle.class_bodies.proofs.units.run_end.Goals as goal

all_before : (m : ℕ → Bool) (low end : ℕ) (r : Option ℕ) → MatchOption r ((k : ℕ) → low ≤ k → k < end → m k ≡ true) (λ i. (low ≤ i) × (i < end) × (m i ≡ false) × ((k : ℕ) → low ≤ k → k < i → m k ≡ true)) → (k : ℕ) → low ≤ k → k < unwrap_or r end → m k ≡ true
all_before m low end None h = h
all_before m low end (Some i) h = h.3

pub returns-clause-before : goal.returns-clause-before
returns-clause-before c =
    let codes = c.args.codes in
    let found = first_from_Range _ c.find.new.self _ c.find.result (λ k. member codes k ≡ false) (λ k. member codes k ≡ true) c.find.ensures.ran (λ x q h. search rules) (λ x q h. search rules) in
    rw c.unwrap_or.ensures (all_before (member codes) _ _ c.find.result found)
