-- What the step does to a bank, what it has to do with the automaton's step, and when a front accepts.
use Rattle.std.specs.Prelude.{◌≡◌, ℕ, Bool, true, List, Decides, Result, MatchResult}
use Rattle.refusals.specs.declared.Refusal.{Refusal}
use Rattle.refusals.specs.declared.Refusal.TheVariants.{Full}
use Rattle.automata.specs.Language.{Tree, WellFormed}
use Rattle.automata.specs.Step.{Step, Stands, Accepts}
use Rattle.banks.specs.Pairs.{Pairs, none, within, ◌⊆◌}
use Rattle.banks.specs.Meaning.{Meaning, Keeps}
use Rattle.widths.specs.Width.{width_of}
use Rattle.tables.specs.declared.table.Table.{Table}
use Rattle.tables.specs.Tables.{TableOf}
use Rattle.steps.specs.StepSet.{step_set}

-- The pair (p, i) is in the set f.
abbrev pub InSet : Pairs → ℕ → ℕ → Type 0
InSet f p i = f p i ≡ true

-- The set f is the front of the row w in the pattern e: it has just the pairs that stand after w.
abbrev pub IsFront : Tree → List ℕ → Pairs → Type 0
IsFront e w f = (p i : ℕ) → Decides (f p i) (Stands e w p i)

-- The set s is the step of the set f by the code c, for every pattern whose table t is: (q, j) is in it exactly when the set
-- at q holds c and some link takes a pair of f to (q, j).
abbrev pub IsStep : Table → ℕ → Pairs → Pairs → Type 0
IsStep t c f s = (e : Tree) → WellFormed e → TableOf e t → (q j : ℕ) → Decides (s q j) (Step e c (InSet f) q j)

-- The answer tells, for every pattern whose table t is, whether a pair of the set f accepts.
abbrev pub TellsAccepting : Table → Pairs → Bool → Type 0
TellsAccepting t f r = (e : Tree) → TableOf e t → Decides r ((p : ℕ) × (i : ℕ) × InSet f p i × Accepts e p i)

module _ {B : Type 0} (m : Meaning B) where
  -- A bank between two steps: in standing, with the table's widths, a front within them and an empty back.
  pub record Fresh (t : Table) (b : B) : Type 0 where
    pub stands : m.standing b
    pub widths_are : m.widths b ≡ width_of t.widths
    pub inside : m.front b ⊆ within (width_of t.widths)
    pub back_is : m.back b ≡ none

  -- What a step by the code c does: the front is the step's set, where the bank can hold that; else 20, FULL, and the front
  -- is the old one. The bank is as it is between two steps, with an empty back, and what it can hold is the same.
  pub record Stepped (t : Table) (c : ℕ) (b : B) (r : Result (Unit {0}) Refusal) (b' : B) : Type 0 where
    pub keeps : Keeps m b b'
    pub fresh : Fresh t b'
    pub answered : MatchResult r
        (λ _. m.holds b (step_set t c (m.front b)) × (m.front b' ≡ step_set t c (m.front b)))
        (λ e. (e ≡ Full) × (m.holds b (step_set t c (m.front b)) → ⊥) × (m.front b' ≡ m.front b))
