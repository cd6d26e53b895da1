-- Whatever list of calls was made, the answers are right.
use Rattle.std.proofs.Common.{◌≡◌, ℕ, suc, ◌+◌, ◌-◌, true, ◌⊎◌, List, [], ◌∷◌, ◌++◌, Ok, Err, Result, sym, refl, ap, subst, inl, inr, arith}
use Rattle.std.specs.List.{AllByRecursion}
use Rattle.refusals.specs.declared.Refusal.{Refusal}
use Rattle.refusals.specs.declared.Refusal.TheVariants.{Full, Complete}
use Rattle.automata.proofs.Completions.{least_unique}
use Rattle.symbols.specs.declared.kind.Kind.{Ghosts as KindGhosts}
use Rattle.banks.specs.declared.Bank.{Ghosts as BankGhosts}
use Rattle.sessions.specs.declared.session.Session.{Session}
use Rattle.sessions.specs.RowLanguage.{Belongs, CompletedBy, NeedIs, IsStuck, IsHint}
use Rattle.sessions.specs.Calls.{Call, Laid, Hinted, row_after, row_from, Turns, none, turn}
use Rattle.sessions.specs.Sessions.{StandsOn, Did, HintTold}
use Rattle.sessions.specs.Runs.{Run, done, then, Nearer, RightAt, EveryRun}
use Rattle.sessions.proofs.Standing.{stands_after}

module _ {K S : Type 0} (k : KindGhosts K S) (text : List ℕ) where
  -- the need is 0 exactly when the row belongs to the language
  joined_none : (row : List S) → row ++ [] ≡ row
  joined_none [] = refl
  joined_none (x ∷ row) = ap (λ v. x ∷ v) (joined_none row)

  need_none : (row : List S) → Belongs k text row → NeedIs k text row 0
  need_none row h = (([], refl, subst (λ v. Belongs k text v) (sym (joined_none row)) h), λ m x. omega arith)

  none_needed : (row : List S) → NeedIs k text row 0 → Belongs k text row
  none_needed row (([], long, h), least) = subst (λ v. Belongs k text v) (joined_none row) h
  none_needed row ((x ∷ v, long, h), least) = absurd (omega arith)

  need_once : (row : List S) (m n : ℕ) → NeedIs k text row m → NeedIs k text row n → m ≡ n
  need_once row m n x y = least_unique (CompletedBy k text row) m n x y

  -- a row with a need is not stuck
  not_stuck : (row : List S) (n : ℕ) → NeedIs k text row n → IsStuck k text row → ⊥
  not_stuck row n ((v, long, h), least) stuck = stuck v h

  -- a symbol of which the row belongs to the language, or has a completion, is a symbol
  hint_valid : (row : List S) (x : S) → IsHint k text row x → k.valid x ≡ true
  hint_valid row x (n, need, ((v, long, (valid, h)), least)) = last_valid row x v valid
    where
      last_valid : (r : List S) (y : S) (u : List S) → AllByRecursion (λ z. k.valid z ≡ true) ((r ++ (y ∷ [])) ++ u) → k.valid y ≡ true
      last_valid [] y u h = h.0
      last_valid (z ∷ r) y u h = last_valid r y u h.1

module _ {K S B : Type 0} (k : KindGhosts K S) (d : BankGhosts B) (text : List ℕ) where
  -- after m turns the need is smaller by m, and the session stands on the row that was laid
  turns_left :
      {m : ℕ} {log : List (Call S)} (n : ℕ) (row : List S) (s t : Session K B) → Turns m log → Run k d s log t → StandsOn k d text row s → NeedIs k text row n
      → (l : ℕ) × (n ≡ m + l) × NeedIs k text (row_from row log) l × StandsOn k d text (row_from row log) t
  turns_left n row s t none done on need = (n, omega arith, need, on)
  turns_left n row s t (turn {old = old} {new = new} {x = x} full more) (then hinted (then laid rest)) on need =
      let (l, first, second) = hinted.full full text row on in
      let same = need_once k text row n (suc l) need first in
      let here = stands_after k d text row (Hinted old new (Ok x)) s _ on hinted in
      let (left, is, then-need, there) = turns_left l (row ++ (x ∷ [])) _ t more rest (stands_after k d text row (Laid x (Ok tt)) _ _ here laid) second in
      (left, omega arith, then-need, there)

  -- what hint answers on a row with a need
  hint_more : (row : List S) (n : ℕ) (r : Result S Refusal) → NeedIs k text row (suc n) → HintTold k text row r → (x : S) × (r ≡ Ok x) × IsHint k text row x
  hint_more row n (Ok x) need h = (x, refl, h)
  hint_more row n (Err e) need (inl (is, h)) = absurd (omega (arith, need_once k text row (suc n) 0 need (need_none k text row h)))
  hint_more row n (Err e) need (inr (is, h)) = absurd (not_stuck k text row (suc n) need h)

  hint_done : (row : List S) (r : Result S Refusal) → NeedIs k text row 0 → HintTold k text row r → r ≡ Err Complete
  hint_done row (Ok x) need (n, first, second) = absurd (omega (arith, need_once k text row (suc n) 0 first need))
  hint_done row (Err e) need (inl (is, h)) = ap (λ v. Err v) is
  hint_done row (Err e) need (inr (is, h)) = absurd (not_stuck k text row 0 need h)

  -- lay accepts a symbol or refuses it with 20
  lay_answers : (row : List S) (x : S) (q : Result (Unit {0}) Refusal) (s u : Session K B) → StandsOn k d text row s → k.valid x ≡ true → Did k d s (Laid x q) u → (q ≡ Ok tt) ⊎ (q ≡ Err Full)
  lay_answers row x (Ok v) s u on valid did = inl refl
  lay_answers row x (Err e) s u on valid did = inr (ap (λ v. Err v) (did.symbol valid on.ready).0.0)

  nearer : (m n l : ℕ) (row : List S) (s : Session K B) → StandsOn k d text row s → n ≡ m + l → NeedIs k text row l → Nearer k d text row m n s
  nearer m n l row s on sum need = record {
    few = omega arith;
    fits_then = (
      (λ h. omega (arith, need_once k text row l 0 need (need_none k text row h))),
      (λ is. none_needed k text row (subst (λ v. NeedIs k text row v) (omega arith) need)),
    );
    goes_on = λ less old new r t full did.
        let one : l ≡ suc (l - 1) = omega arith in
        let (x, is, h) = hint_more row (l - 1) r (subst (λ v. NeedIs k text row v) one need) (did.full full text row on) in
        (x, is, λ q u laid. lay_answers row x q t u (stands_after k d text row (Hinted old new r) s t on did) (hint_valid k text row x h) laid);
    ends = λ is old new r t full did. hint_done row r (subst (λ v. NeedIs k text row v) (omega arith) need) (did.full full text row on);
  }

  pub right_at : (row : List S) (s : Session K B) → StandsOn k d text row s → RightAt k d text row s
  right_at row s on = record {
    front_right = on;
    fits_right = λ b t did. did.1 text row on;
    need_right = λ old new r t full did. did.full full text row on;
    hints_right = λ m n log t need turns run.
        let (l, is, left, there) = turns_left n row s t turns run on need in
        nearer m n l (row_from row log) t there is left;
  }

  stands_run : (log : List (Call S)) (row : List S) (s t : Session K B) → StandsOn k d text row s → Run k d s log t → StandsOn k d text (row_from row log) t
  stands_run [] row s t on done = on
  stands_run (c ∷ log) row s t on (then did rest) = stands_run log (row_after row c) _ t (stands_after k d text row c s _ on did) rest

  pub every_run : (s : Session K B) → StandsOn k d text [] s → EveryRun k d text s
  every_run s on = λ log t run. right_at (row_from [] log) t (stands_run log [] s t on run)
