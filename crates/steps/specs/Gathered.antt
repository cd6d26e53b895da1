-- What the calls in the middle of a step do to a bank: they put pairs into its back.
use Rattle.std.specs.Prelude.{◌≡◌, Result, MatchResult}
use Rattle.refusals.specs.declared.Refusal.{Refusal}
use Rattle.refusals.specs.declared.Refusal.TheVariants.{Full}
use Rattle.banks.specs.Pairs.{Pairs}
use Rattle.banks.specs.Meaning.{Meaning, Keeps, Turned, Dropped, grown}

module _ {B : Type 0} (m : Meaning B) where
  -- A bank in the middle of a step: in standing, with a back that it can hold.
  pub record Ready (b : B) : Type 0 where
    pub stands : m.standing b
    pub held : m.holds b (m.back b)

  -- What calls that together put new pairs into the back of b do: the front stays, and the back of b' is that of b with the
  -- new pairs within the widths, where the bank can hold that; else 20, FULL, and the back is of no use.
  pub record Gathered (new : Pairs) (b : B) (r : Result (Unit {0}) Refusal) (b' : B) : Type 0 where
    pub keeps : Keeps m b b'
    pub front_stays : m.front b' ≡ m.front b
    pub answered : MatchResult r
        (λ _. m.holds b (grown m b new) × (m.back b' ≡ grown m b new))
        (λ e. (e ≡ Full) × (m.holds b (grown m b new) → ⊥))

  -- The end of a step by what it came to: the bank turns where nothing was refused, else it drops its back.
  abbrev pub Ended : Result (Unit {0}) Refusal → B → B → Type 0
  Ended r b b' = MatchResult r (λ _. Turned m b b') (λ _. Dropped m b b')
