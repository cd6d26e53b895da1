-- A row laid symbol by symbol.
use Rattle.std.proofs.Common.{◌≡◌, ℕ, ◌+◌, ◌<◌, List, [], ◌∷◌, ◌++◌, length, get_or, take, Ok, sym, ◌∙◌, subst, append_assoc, append-nil}
use Rattle.std.proofs.lemmas.List.{map_more}
use Rattle.symbols.specs.declared.kind.Kind.{Ghosts as KindGhosts}
use Rattle.banks.specs.declared.Bank.{Ghosts as BankGhosts}
use Rattle.sessions.specs.declared.session.Session.{Session}
use Rattle.sessions.specs.Calls.{Call, Laid, laid_all, row_from}
use Rattle.sessions.specs.Sessions.{Did}
use Rattle.sessions.specs.Runs.{Run, done, then}

module _ {K S B : Type 0} (k : KindGhosts K S) (d : BankGhosts B) where
  -- one call more
  pub run_more : (log : List (Call S)) (s u t : Session K B) (c : Call S) → Run k d s log u → Did k d u c t → Run k d s (log ++ (c ∷ [])) t
  run_more [] s u t c done did = then did done
  run_more (b ∷ log) s u t c (then first rest) did = then first (run_more log _ u t c rest did)

  -- one symbol more
  pub laid_more :
      (row : List S) (i : ℕ) (x : S) (s u t : Session K B) → i < length row → x ≡ get_or row i x
      → Run k d s (laid_all (take i row)) u → Did k d u (Laid x (Ok tt)) t → Run k d s (laid_all (take (i + 1) row)) t
  laid_more row i x s u t less is run did =
      subst (λ log. Run k d s log t) (sym (map_more (λ y. Laid y (Ok tt)) row i x less))
      (run_more (laid_all (take i row)) s u t (Laid (get_or row i x) (Ok tt)) run (subst (λ y. Did k d u (Laid y (Ok tt)) t) is did))

-- the row that these calls lay
pub row_laid : {S : Type 0} (front row : List S) → row_from front (laid_all row) ≡ front ++ row
row_laid front [] = sym (append-nil front)
row_laid front (x ∷ row) = row_laid (front ++ (x ∷ [])) row ∙ append_assoc front (x ∷ []) row
