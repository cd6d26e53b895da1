-- Which plan a text has, and what reading leaves.
use Rattle.std.specs.Prelude.{◌≡◌, ℕ, ◌≤◌, cond, ◌⊎◌, List, [], length, Ok, Err, Result, ◌==◌}
use Rattle.alphabets.specs.declared.Alphabet.{Alphabet}
use Rattle.alphabets.specs.declared.Alphabet.TheVariants.{Letters, Tiles}
use Rattle.refusals.specs.declared.Refusal.{Refusal}
use Rattle.refusals.specs.declared.Refusal.TheVariants.{Memory}
use Rattle.symbols.specs.declared.kind.Kind.{Ghosts}
use Rattle.syntax.specs.Refuses.{Refuses}
use Rattle.plans.specs.declared.plan.Plan.{Plan}
use Rattle.plans.specs.Made.{TableFrom}

-- A text is refused: for want of memory, or with the one refusal whose condition holds and none before it.
pub record RefusedText (a : Alphabet) (text : List ℕ) (r : Refusal) : Type 0 where
  pub why : ((r ≡ Memory) × (length text ≤ 512)) ⊎ (Refuses a text r × ((q : Refusal) → Refuses a text q → q ≡ r))

module _ {K S : Type 0} (k : Ghosts K S) where
  -- The alphabet in which patterns of the kind are written.
  abbrev pub alphabet_of : Alphabet
  alphabet_of = cond (k.unit_length == 1) Letters Tiles

  -- The plan is that of the text.
  abbrev pub PlanOf : List ℕ → Plan K → Type 0
  PlanOf text p = TableFrom alphabet_of text p.table

  -- What reading a text answers and leaves: the plan of the text; or, refused, the plan of the empty pattern.
  abbrev pub ReadInto : List ℕ → Result (Unit {0}) Refusal → Plan K → Type 0
  ReadInto text (Ok u) p = PlanOf text p
  ReadInto text (Err r) p = RefusedText alphabet_of text r × PlanOf [] p
