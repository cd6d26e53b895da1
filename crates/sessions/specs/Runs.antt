-- What every list of calls on a session gives, said of the text that its plan was read from and the row that the calls laid.
use Rattle.std.specs.Prelude.{◌≡◌, ℕ, ◌<◌, ◌≤◌, Bool, ◌⊎◌, ◌↔◌, List, [], ◌∷◌, ◌++◌, length, take, Ok, Err, Decides, Result, slice_index_or}
use Rattle.refusals.specs.declared.Refusal.{Refusal}
use Rattle.refusals.specs.declared.Refusal.TheVariants.{Full, Complete}
use Rattle.symbols.specs.declared.kind.Kind.{Ghosts as KindGhosts}
use Rattle.symbol_rows.specs.declared.row.RowRefusal.{RowRefusal}
use Rattle.banks.specs.declared.Bank.{Ghosts as BankGhosts}
use Rattle.widths.specs.Width.{width_of}
use Rattle.banks.specs.Meaning.{Started}
use Rattle.plans.specs.Plans.{PlanOf}
use Rattle.completions.specs.Answers.{FullArea}
use Rattle.sessions.specs.declared.session.Session.{Session}
use Rattle.sessions.specs.RowLanguage.{Belongs, NeedIs}
use Rattle.sessions.specs.Calls.{Call, Laid, Fitted, Needed, Hinted, row_from, row_of, laid_all, Turns}
use Rattle.sessions.specs.Sessions.{StandsOn, Did, NeedTold}

module _ {K S B : Type 0} (k : KindGhosts K S) (d : BankGhosts B) where
  -- The calls of the list, one after another, take the session s to s'.
  pub data Run : Session K B → List (Call S) → Session K B → Type 0 where
    done : {s : Session K B} → Run s [] s
    then : {s u t : Session K B} {c : Call S} {log : List (Call S)} → Did k d s c u → Run u log t → Run s (c ∷ log) t

  -- The symbols of a row were laid one after another, and took the session s to t: all of them, or those before the first that was refused.
  abbrev pub RowLaid : Session K B → List S → Result (Unit {0}) RowRefusal → Session K B → Type 0
  RowLaid s row (Ok u) t = Run s (laid_all row) t
  RowLaid s row (Err e) t =
      (e.before < length row)
      × ((x : S) → Run s (laid_all (take e.before row) ++ (Laid (slice_index_or row e.before x) (Err e.refusal) ∷ [])) t)

  -- After m turns of hint and lay, from a row whose need was n: the row is now `row`, the session s.
  pub record Nearer (text : List ℕ) (row : List S) (m n : ℕ) (s : Session K B) : Type 0 where
    -- there were no more turns than the need
    pub few : m ≤ n
    -- the row belongs to the language exactly when there were as many
    pub fits_then : Belongs k text row ↔ (m ≡ n)
    -- before that hint, lent a full area, names a symbol, which lay accepts or refuses with 20, FULL
    pub goes_on : m < n → (old new : List ℕ) (r : Result S Refusal) (t : Session K B) → FullArea old → Did k d s (Hinted old new r) t
        → (x : S) × (r ≡ Ok x) × ((q : Result (Unit {0}) Refusal) (u : Session K B) → Did k d t (Laid x q) u → (q ≡ Ok tt) ⊎ (q ≡ Err Full))
    -- then it answers 21, COMPLETE
    pub ends : m ≡ n → (old new : List ℕ) (r : Result S Refusal) (t : Session K B) → FullArea old → Did k d s (Hinted old new r) t → r ≡ Err Complete

  -- What holds of a session whose calls laid the row.
  pub record RightAt (text : List ℕ) (row : List S) (s : Session K B) : Type 0 where
    -- the bank's front is that of the row
    pub front_right : StandsOn k d text row s
    -- fits says yes exactly when the row belongs to the language of the text
    pub fits_right : (b : Bool) (t : Session K B) → Did k d s (Fitted b) t → Decides b (Belongs k text row)
    -- need, lent a full area, answers the length of a shortest completion, and says stuck exactly when there is none
    pub need_right : (old new : List ℕ) (r : Result ℕ Refusal) (t : Session K B) → FullArea old → Did k d s (Needed old new r) t → NeedTold k text row r
    -- following hints brings the row into the language after exactly as many symbols as the need, and not before
    pub hints_right : (m n : ℕ) (log : List (Call S)) (t : Session K B) → NeedIs k text row n → Turns m log → Run s log t → Nearer text (row_from row log) m n t

  -- Whatever list of calls was made on the session, also none: it is right for the row that they laid.
  abbrev pub EveryRun : List ℕ → Session K B → Type 0
  EveryRun text s = (log : List (Call S)) (t : Session K B) → Run s log t → RightAt text (row_of log) t

  -- What holds of a session that was opened on a text: its plan is the text's, its bank is started, and every list of calls goes right.
  pub record OpenedOn (text : List ℕ) (s : Session K B) : Type 0 where
    pub plan_of : PlanOf k text s.plan
    pub started : Started d.means (width_of s.plan.table.widths) s.bank
    pub right : EveryRun text s
