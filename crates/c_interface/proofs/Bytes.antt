-- One letter more, and the byte behind it; and the need that is told.
use Rattle.std.proofs.Common.{◌≡◌, ℕ, ◌+◌, ◌<◌, Bool, true, false, List, [], ◌∷◌, ◌++◌, length, get_or, take, set, Ok, Err, Result, MatchResult, sym, refl, ap, ◌∙◌, subst, inl, inr, arith}
use mir.Val.{bool_byte}
use Rattle.std.proofs.lemmas.List.{take_more, get_or-set_same, get_or-set_other}
use Rattle.std.proofs.lemmas.Bool.{both_ways}
use Rattle.std.proofs.lemmas.Bool.Decides.{eqb_tells}
use Rattle.symbols.specs.declared.letters.Letters.{Letters}
use Rattle.symbols.specs.contracts.letters.LettersKind.TheImpl.{ghosts as letters}
use Rattle.bit_bank.specs.declared.bank.BitBank.{BitBank}
use Rattle.bit_bank.specs.contracts.calls.BitBankBank.TheImpl.{ghosts as bits}
use Rattle.sessions.specs.declared.session.Session.{Session}
use Rattle.sessions.specs.Calls.{Laid, Fitted}
use Rattle.sessions.specs.RowLanguage.{NeedIs}
use Rattle.sessions.specs.Sessions.{StandsOn, Did, NeedTold}
use Rattle.refusals.specs.declared.Refusal.{Refusal}
use Rattle.par_report.specs.Pars.{IsAccepted}
use Rattle.sessions.proofs.Standing.{stands_after}
use Rattle.c_interface.specs.Told.{Tells, NoNeed}

-- the session stands on one letter more
pub laid_one :
    (text row : List ℕ) (i x : ℕ) (s t : Session Letters BitBank) → i < length row → x ≡ get_or row i 0 → StandsOn letters bits text (take i row) s
    → Did letters bits s (Laid x (Ok tt)) t → StandsOn letters bits text (take (i + 1) row) t
laid_one text row i x s t less is on did =
    subst (λ r. StandsOn letters bits text r t) (ap (λ v. take i row ++ (v ∷ [])) is ∙ sym (take_more row i 0 less))
    (stands_after letters bits text (take i row) (Laid x (Ok tt)) s t on did)

-- the answer of fits as a byte
pub tells : (text row : List ℕ) (b : Bool) (s t : Session Letters BitBank) → StandsOn letters bits text row s → Did letters bits s (Fitted b) t → Tells text row (bool_byte b)
tells text row true s t on did = inl (refl, (did.1 text row on).0 refl)
tells text row false s t on did = inr (refl, λ h. both_ways false refl ((did.1 text row on).1 h))

-- one byte more
pub tells_more :
    (text row bytes : List ℕ) (i b : ℕ) → i < length bytes → ((k : ℕ) → k < i → Tells text (take (k + 1) row) (get_or bytes k 0)) → Tells text (take (i + 1) row) b
    → (k : ℕ) → k < i + 1 → Tells text (take (k + 1) row) (get_or (set bytes i b) k 0)
tells_more text row bytes i b less before here k below = elim (eqb_tells k i) [
  | inl (x, is) ↦
      subst (λ n. Tells text (take (n + 1) row) (get_or (set bytes i b) n 0)) (sym is)
      (subst (λ v. Tells text (take (i + 1) row) v) (sym (get_or-set_same bytes i b 0 less)) here)
  | inr (x, is) ↦
      subst (λ v. Tells text (take (k + 1) row) v) (sym (get_or-set_other bytes i k b 0 is)) (before k (omega arith))
]

-- a need that was told of a row in an accepted text
pub needed : (text row : List ℕ) (r : Result ℕ Refusal) → IsAccepted text → NeedTold letters text row r
    → MatchResult r (λ n. IsAccepted text × NeedIs letters text row n) (λ _. NoNeed text row)
needed text row (Ok n) accepted told = (accepted, told)
needed text row (Err e) accepted told = inr (inr told.1)
