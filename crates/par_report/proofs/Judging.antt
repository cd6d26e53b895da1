-- What is answered of a row that was laid, or refused, and of a text that was refused.
use Rattle.std.proofs.Common.{ℕ, ◌<◌, List, [], ◌∷◌, ◌++◌, length, get_or, take, Ok, Err, Result, subst}
use Rattle.std.specs.Result.{result_ok}
use Rattle.refusals.specs.declared.Refusal.{Refusal}
use Rattle.symbols.specs.declared.letters.Letters.{Letters as LettersType}
use Rattle.symbols.specs.contracts.letters.LettersKind.TheImpl.{ghosts as letters}
use Rattle.symbols.specs.declared.kind.Kind.{Ghosts as KindGhosts}
use Rattle.banks.specs.declared.Bank.{Ghosts as BankGhosts}
use Rattle.bit_bank.specs.contracts.calls.BitBankBank.TheImpl.{ghosts as bits}
use Rattle.bit_bank.specs.declared.bank.BitBank.{BitBank}
use Rattle.sessions.specs.declared.session.Session.{Session}
use Rattle.sessions.specs.Calls.{Call, Laid, laid_all}
use Rattle.sessions.specs.Sessions.{Did, NeedTold}
use Rattle.sessions.specs.Runs.{Run, done, then, RightAt, EveryRun}
use Rattle.sessions.proofs.RowsLaid.{row_laid}
use Rattle.par_report.specs.Pars.{NeedSaid, RowRefused}
use Rattle.par_report.proofs.NeverFull.{only_no_symbol}

-- the last call of a run
run_last :
    {K S B : Type 0} (k : KindGhosts K S) (d : BankGhosts B) (log : List (Call S)) (c : Call S) (s t : Session K B) → Run k d s (log ++ (c ∷ [])) t
    → (u : Session K B) × Run k d s log u × Did k d u c t
run_last k d [] c s t (then did done) = (s, done, did)
run_last k d (b ∷ log) c s t (then did rest) =
    let (u, run, last) = run_last k d log c _ t rest in
    (u, then did run, last)

-- a row all of whose letters were laid
pub right_laid :
    (text row : List ℕ) (s t : Session LettersType BitBank) → EveryRun letters bits text s → Run letters bits s (laid_all row) t → RightAt letters bits text row t
right_laid text row s t right run = subst (λ r. RightAt letters bits text r t) (row_laid [] row) (right (laid_all row) t run)

-- a row with a letter that was refused
pub refused_laid :
    (text row : List ℕ) (n : ℕ) (e : Refusal) (s t : Session LettersType BitBank) → EveryRun letters bits text s → n < length row
    → ((x : ℕ) → Run letters bits s (laid_all (take n row) ++ (Laid (get_or row n x) (Err e) ∷ [])) t) → RowRefused text row e n
refused_laid text row n e s t right less run =
    let (u, before, last) = run_last letters bits (laid_all (take n row)) (Laid (get_or row n 0) (Err e)) s t (run 0) in
    let here = (right_laid text (take n row) s u right before).front_right in
    let (is, none) = only_no_symbol letters u t (get_or row n 0) e here.ready last in (
      (here.plan_of.tree, here.plan_of.accepted),
      is,
      (
        less,
        here.symbols,
        λ x.
            let (v, run-x, last-x) = run_last letters bits (laid_all (take n row)) (Laid (get_or row n x) (Err e)) s t (run x) in
            (only_no_symbol letters v t (get_or row n x) e (right_laid text (take n row) s v right run-x).front_right.ready last-x).1,
      ),
    )

-- a need that was told, or that there is none
pub need_said : (text row : List ℕ) (r : Result ℕ Refusal) → NeedTold letters text row r → NeedSaid text row (result_ok r)
need_said text row (Ok n) told = told
need_said text row (Err e) told = told.1
