-- What a bank means, and what its calls do to that. All that is said of a bank is said here, once for all banks.
use Rattle.std.specs.Prelude.{◌≡◌, ℕ, ◌≤◌, Bool, true, ◌↔◌, Decides, Result, MatchResult}
use Rattle.refusals.specs.declared.Refusal.{Refusal}
use Rattle.refusals.specs.declared.Refusal.TheVariants.{Full}
use Rattle.banks.specs.Pairs.{Pairs, none, only, within, no_widths, ◌∪◌, ◌∩◌, ◌⊆◌}

-- What each state of a bank means.
pub record Meaning (B : Type 0) : Type 1 where
  -- the states of which the calls promise something
  pub standing : B → Type 0
  -- the width of each place
  pub widths : B → ℕ → ℕ
  -- the pairs that stand, and those that are being put together
  pub front : B → Pairs
  pub back : B → Pairs
  -- which sets it can hold
  pub holds : B → Pairs → Type 0

module _ {B : Type 0} (m : Meaning B) where
  -- A bank in standing can hold the empty set, and any subset of a set that it can hold.
  pub record Facts : Type 0 where
    pub empty : (b : B) → m.standing b → m.holds b none
    pub fewer : (b : B) (s t : Pairs) → m.standing b → s ⊆ t → m.holds b t → m.holds b s

  -- A new bank is in standing, has no widths, and both its sets are empty.
  pub record New (b : B) : Type 0 where
    pub stands : m.standing b
    pub widths_are : m.widths b ≡ no_widths
    pub front_is : m.front b ≡ none
    pub back_is : m.back b ≡ none

  -- A bank that was started with widths ws is in standing, has these widths, its front is (0, 1) alone, its back is empty, and it can hold (0, 1) alone.
  pub record Started (ws : ℕ → ℕ) (b : B) : Type 0 where
    pub stands : m.standing b
    pub widths_are : m.widths b ≡ ws
    pub front_is : m.front b ≡ only 0 1
    pub back_is : m.back b ≡ none
    pub holds_start : m.holds b (only 0 1)

  -- From b to b' the bank stays in standing, and the widths and which sets it can hold stay: what every call but start keeps.
  pub record Keeps (b b' : B) : Type 0 where
    pub stands : m.standing b'
    pub same_widths : m.widths b' ≡ m.widths b
    pub same_holds : (s : Pairs) → m.holds b s ↔ m.holds b' s

  -- The back with the new pairs, those outside the widths left out.
  abbrev pub grown : B → Pairs → Pairs
  grown b new = m.back b ∪ (new ∩ within (m.widths b))

  -- What a call that puts new pairs into the back of b answers, and the back of b' that it leaves:
  -- the back with the new pairs where the bank can hold that; else 20, FULL, and the back as it was.
  abbrev pub Answered : Pairs → B → Result (Unit {0}) Refusal → B → Type 0
  Answered new b r b' =
      MatchResult r
      (λ _. m.holds b (grown b new) × (m.back b' ≡ grown b new))
      (λ e. (e ≡ Full) × (m.holds b (grown b new) → ⊥) × (m.back b' ≡ m.back b))

  -- What add and carry do with new pairs: the front stays, and the back is as answered.
  pub record Put (new : Pairs) (b : B) (r : Result (Unit {0}) Refusal) (b' : B) : Type 0 where
    pub keeps : Keeps b b'
    pub front_stays : m.front b' ≡ m.front b
    pub answered : Answered new b r b'

  -- A look says yes exactly where the front holds a count from low to high at p.
  abbrev pub Looked : ℕ → ℕ → ℕ → B → Bool → Type 0
  Looked p low high b r = Decides r ((i : ℕ) × (low ≤ i) × (i ≤ high) × (m.front b p i ≡ true))

  -- A turn makes the back the front, and empties the back.
  pub record Turned (b b' : B) : Type 0 where
    pub keeps : Keeps b b'
    pub front_is : m.front b' ≡ m.back b
    pub back_is : m.back b' ≡ none

  -- Dropping the back empties it; the front stays.
  pub record Dropped (b b' : B) : Type 0 where
    pub keeps : Keeps b b'
    pub front_stays : m.front b' ≡ m.front b
    pub back_is : m.back b' ≡ none
