-- What a walk over the members of a set passes.
use Rattle.std.specs.Prelude.{◌≡◌, ℕ, false, not, ◌&&◌, Option, MatchOption, ◌==◌}
use Rattle.bits.specs.declared.set.Set64.{Set64}
use Rattle.bits.specs.Members.{member, Least}

-- n is the least of the members that were left, and the others are left
pub record PassesMember (old : Set64) (n : ℕ) (new : Set64) : Type 0 where
  pub least : Least old n
  pub others : (k : ℕ) → member new k ≡ (member old k && not (k == n))

-- the least of the members that were left is passed, or none was left
abbrev pub PassesLeast : Set64 → Option ℕ → Set64 → Type 0
PassesLeast old r new = MatchOption r (((k : ℕ) → member old k ≡ false) × (new ≡ old)) (λ n. PassesMember old n new)
