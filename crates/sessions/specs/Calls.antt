-- Calls with their arguments and answers, and the row that follows from them alone.
use Rattle.std.specs.Prelude.{ℕ, zero, suc, Bool, List, [], ◌∷◌, ◌++◌, map, Ok, Err, Result}
use Rattle.refusals.specs.declared.Refusal.{Refusal}
use Rattle.completions.specs.Answers.{FullArea}

-- A call on a session whose symbols are of the type S. Those of need and hint have the area as it was lent and as it came back.
pub data Call (S : Type 0) : Type 0 where
  Laid : S → Result (Unit {0}) Refusal → Call S
  Cleared : Call S
  Fitted : Bool → Call S
  Needed : List ℕ → List ℕ → Result ℕ Refusal → Call S
  Hinted : List ℕ → List ℕ → Result S Refusal → Call S

module _ {S : Type 0} where
  -- The row after a call: a symbol that was accepted stands at its end; clear makes it empty; all else leaves it.
  abbrev pub row_after : List S → Call S → List S
  row_after row (Laid x (Ok u)) = row ++ (x ∷ [])
  row_after row (Laid x (Err e)) = row
  row_after row Cleared = []
  row_after row (Fitted b) = row
  row_after row (Needed old new r) = row
  row_after row (Hinted old new r) = row

  -- The row after a list of calls.
  abbrev pub row_from : List S → List (Call S) → List S
  row_from row [] = row
  row_from row (c ∷ log) = row_from (row_after row c) log

  -- The row of a session after the calls since it was opened.
  abbrev pub row_of : List (Call S) → List S
  row_of log = row_from [] log

  -- The calls that lay the symbols of a row, one after another, all accepted.
  abbrev pub laid_all : List S → List (Call S)
  laid_all row = map (λ x. Laid x (Ok tt)) row

  -- Hint and lay take turns, m times: each hint is lent a full area and names a symbol, and the lay of that symbol is accepted.
  pub data Turns : ℕ → List (Call S) → Type 0 where
    none : Turns zero []
    turn : {m : ℕ} {log : List (Call S)} {old new : List ℕ} {x : S}
        → FullArea old → Turns m log → Turns (suc m) (Hinted old new (Ok x) ∷ (Laid x (Ok tt) ∷ log))
