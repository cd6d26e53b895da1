-- What each call on a session does.
use Rattle.std.specs.Prelude.{◌≡◌, ℕ, ◌<◌, true, false, ◌⊎◌, List, length, Ok, Err, Decides, Result}
use Rattle.refusals.specs.declared.Refusal.{Refusal}
use Rattle.refusals.specs.declared.Refusal.TheVariants.{Symbol, Work, Full, Complete, Stuck}
use Rattle.automata.specs.Language.{Tree, WellFormed}
use Rattle.symbols.specs.declared.kind.Kind.{Ghosts as KindGhosts}
use Rattle.symbol_rows.specs.Rows.{AllSymbols, codes_of}
use Rattle.widths.specs.Width.{width_of}
use Rattle.tables.specs.Tables.{TableOf}
use Rattle.plans.specs.Plans.{PlanOf}
use Rattle.banks.specs.declared.Bank.{Ghosts as BankGhosts}
use Rattle.banks.specs.Pairs.{Pairs}
use Rattle.banks.specs.Meaning.{Started, Keeps}
use Rattle.steps.specs.Fronts.{Fresh, IsFront, IsStep}
use Rattle.completions.specs.Answers.{FullArea, Cleared as AreaCleared}
use Rattle.sessions.specs.declared.session.Session.{Session}
use Rattle.sessions.specs.RowLanguage.{Belongs, NeedIs, IsStuck, IsHint}
use Rattle.sessions.specs.Calls.{Call, Laid, Cleared, Fitted, Needed, Hinted}

module _ {K S : Type 0} (k : KindGhosts K S) (text : List ℕ) where
  -- What need answers of a row: its need, or 22, STUCK, where it has no completion.
  abbrev pub NeedTold : List S → Result ℕ Refusal → Type 0
  NeedTold row (Ok n) = NeedIs k text row n
  NeedTold row (Err e) = (e ≡ Stuck) × IsStuck k text row

  -- What hint answers of a row: a hint; 21, COMPLETE, where the row is in the language; 22, STUCK, where it has no completion.
  abbrev pub HintTold : List S → Result S Refusal → Type 0
  HintTold row (Ok x) = IsHint k text row x
  HintTold row (Err e) = ((e ≡ Complete) × Belongs k text row) ⊎ ((e ≡ Stuck) × IsStuck k text row)

module _ {K S B : Type 0} (k : KindGhosts K S) (d : BankGhosts B) where
  -- The session's bank is in standing, with the plan's widths, a front within them and an empty back.
  abbrev pub Ready : Session K B → Type 0
  Ready s = Fresh d.means s.plan.table s.bank

  -- The pairs that stand.
  abbrev pub front_pairs : Session K B → Pairs
  front_pairs s = d.means.front s.bank

  -- The session stands on the pattern and the row: its plan is that of the text, and its front that of the row.
  pub record StandsOn (text : List ℕ) (row : List S) (s : Session K B) : Type 0 where
    pub plan_of : PlanOf k text s.plan
    pub ready : Ready s
    pub symbols : AllSymbols k row
    pub front_of : (e : Tree) → WellFormed e → TableOf e s.plan.table → IsFront e (codes_of k row) (front_pairs s)

  -- What lay does with a symbol. Accepted: the front is the step of the old one, which the bank can hold.
  -- Refused: 20, FULL; the bank can hold no step of the front, the front stays and the back is empty.
  abbrev pub LaidAs : Session K B → S → Result (Unit {0}) Refusal → Session K B → Type 0
  LaidAs s x (Ok u) s' = IsStep s.plan.table (k.code x) (front_pairs s) (front_pairs s') × d.means.holds s.bank (front_pairs s')
  LaidAs s x (Err e) s' =
      (e ≡ Full) × (front_pairs s' ≡ front_pairs s)
      × ((f : Pairs) → IsStep s.plan.table (k.code x) (front_pairs s) f → d.means.holds s.bank f → ⊥)

  -- Lay: a value that is no symbol is refused with 10, SYMBOL, and the session stays; a symbol is laid. The plan stays, and so does what the bank can hold.
  pub record LayDid (s : Session K B) (x : S) (r : Result (Unit {0}) Refusal) (s' : Session K B) : Type 0 where
    pub plan_stays : s'.plan ≡ s.plan
    pub no_symbol : k.valid x ≡ false → (r ≡ Err Symbol) × (s' ≡ s)
    pub symbol : k.valid x ≡ true → Ready s → LaidAs s x r s' × Ready s' × Keeps d.means s.bank s'.bank

  -- Need and hint with an area that was old and came back as new: the session stays; a short area is refused with 11, WORK, and stays; a full
  -- one comes back with 0 in its first 4,096 numbers, and the answer is right for every text and row that the session stands on.
  pub record AreaDid {X : Type 0} (Right : List ℕ → List S → Result X Refusal → Type 0) (s : Session K B) (old new : List ℕ) (r : Result X Refusal) (s' : Session K B) : Type 0 where
    pub stays : s' ≡ s
    pub area : AreaCleared old new
    pub short : length old < 4096 → r ≡ Err Work
    pub full : FullArea old → (text : List ℕ) (row : List S) → StandsOn text row s → Right text row r

  -- What a call does to the session s, which is s' afterwards: the contract of each call, and a step of a run.
  abbrev pub Did : Session K B → Call S → Session K B → Type 0
  Did s (Laid x r) s' = LayDid s x r s'
  Did s Cleared s' = (s'.plan ≡ s.plan) × Started d.means (width_of s.plan.table.widths) s'.bank
  Did s (Fitted b) s' = (s' ≡ s) × ((text : List ℕ) (row : List S) → StandsOn text row s → Decides b (Belongs k text row))
  Did s (Needed old new r) s' = AreaDid (NeedTold k) s old new r s'
  Did s (Hinted old new r) s' = AreaDid (HintTold k) s old new r s'
