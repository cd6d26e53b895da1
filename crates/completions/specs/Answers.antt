-- What is answered of the need and of a hint, and what becomes of the area.
use Rattle.std.specs.Prelude.{◌≡◌, ℕ, ◌<◌, ◌≤◌, ◌⊎◌, List, length, Ok, Err, Result, Option}
use Rattle.std.specs.Borrow.{Bor}
use Rattle.refusals.specs.declared.Refusal.{Refusal}
use Rattle.refusals.specs.declared.Refusal.TheVariants.{Complete, Stuck as NoCompletion}
use Rattle.automata.specs.Language.{Tree, In, WellFormed, NoEmptySet}
use Rattle.automata.specs.Completion.{Need, Stuck, Hint}
use Rattle.automata.specs.Distances.{Labelled}
use Rattle.banks.specs.Pairs.{Pairs}
use Rattle.tables.specs.declared.table.Table.{Table}
use Rattle.tables.specs.Tables.{TableOf}
use Rattle.distances.specs.declared.marks.Marks.{Marks}
use Rattle.distances.specs.Marks.{mark_of, Wiped}
use Rattle.steps.specs.Fronts.{IsFront}
use Rattle.completions.specs.declared.nearest.Found.{Found}
use Rattle.completions.specs.Nearest.{LeastMark}

-- A full area has at least 4,096 numbers.
abbrev pub FullArea : List ℕ → Type 0
FullArea area = 4096 ≤ length area

-- What becomes of a lent area: a short one stays, and of a full one the first 4,096 numbers are 0 and the rest stay.
pub record Cleared (old new : List ℕ) : Type 0 where
  pub short : length old < 4096 → new ≡ old
  pub full : FullArea old → Wiped old new

-- The marks are the distances in the table, for every pattern whose table it is.
abbrev pub MarksOf : Table → Marks → Type 0
MarksOf t marks = (e : Tree) → WellFormed e → TableOf e t → Labelled e (mark_of marks)

-- What is told of some marks that are the distances and of the pair of the front f that is nearest by them.
abbrev pub Told : Table → Pairs → (Bor Marks → Option Found → Type 0) → Type 0
Told t f Says = (marks : Bor Marks) × (found : Option Found) × MarksOf t marks.now × ((e : Tree) → TableOf e t → LeastMark (mark_of marks.now) f found) × Says marks found

-- The answer on a row's need: the need, or 22, STUCK, where no row completes it.
abbrev pub NeedOf : Tree → List ℕ → Result ℕ Refusal → Type 0
NeedOf e w (Ok n) = Need e w n
NeedOf e w (Err r) = (r ≡ NoCompletion) × Stuck e w

-- The answer on a hint: a code after which the need is smaller by one; or 21, COMPLETE, where the row is in the language, or 22, STUCK, where
-- no row completes it.
abbrev pub HintOf : Tree → List ℕ → Result ℕ Refusal → Type 0
HintOf e w (Ok c) = Hint e w c
HintOf e w (Err r) = ((r ≡ Complete) × In e w) ⊎ ((r ≡ NoCompletion) × Stuck e w)

-- The answer is right for every pattern whose table t is, and every row whose front f is.
abbrev pub Right : (Tree → List ℕ → Result ℕ Refusal → Type 0) → Table → Pairs → Result ℕ Refusal → Type 0
Right Of t f r = (e : Tree) (w : List ℕ) → WellFormed e → NoEmptySet e → TableOf e t → IsFront e w f → Of e w r

-- The answer is right where the marks are the distances, for every front of whose pairs the one that was found is nearest.
abbrev pub Tells : (Tree → List ℕ → Result ℕ Refusal → Type 0) → Table → Marks → Option Found → Result ℕ Refusal → Type 0
Tells Of t marks found r = (f : Pairs) → LeastMark (mark_of marks) f found → MarksOf t marks → Right Of t f r
