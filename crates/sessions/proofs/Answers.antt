-- What is told of a front is right for the row of symbols that it is the front of.
use Rattle.std.proofs.Common.{◌≡◌, ℕ, ◌<◌, Bool, true, cond, eqb, ◌⊎◌, List, Ok, Err, Decides, Result, inl, inr}
use Rattle.std.proofs.lemmas.Bool.Decides.{Decides-like}
use Rattle.refusals.specs.declared.Refusal.{Refusal}
use Rattle.refusals.specs.declared.Refusal.TheVariants.{Complete, Stuck as NoCompletion}
use Rattle.automata.specs.Language.{Tree, In}
use Rattle.automata.specs.Step.{Accepts, Fits}
use Rattle.automata.specs.Completion.{Stuck}
use Rattle.automata.proofs.Fronts.{language_by_fronts_lem}
use Rattle.syntax.specs.TextLanguage.{tree_of}
use Rattle.symbols.specs.declared.kind.Kind.{Ghosts as KindGhosts}
use Rattle.symbol_rows.specs.Rows.{codes_of}
use Rattle.banks.specs.declared.Bank.{Ghosts as BankGhosts}
use Rattle.steps.specs.Fronts.{InSet, IsFront, TellsAccepting}
use Rattle.completions.specs.Answers.{NeedOf, HintOf, Right}
use Rattle.sessions.specs.declared.session.Session.{Session}
use Rattle.sessions.specs.RowLanguage.{Belongs, IsHint}
use Rattle.sessions.specs.Sessions.{StandsOn, front_pairs, NeedTold, HintTold}
use Rattle.sessions.proofs.CodeRows.{in_belongs, belongs_in, need_like, stuck_from, hint_code, hint_from}

module _ {K S B : Type 0} (k : KindGhosts K S) (d : BankGhosts B)
    (alphabet : k.codes ≡ cond (eqb k.unit_length 1) 26 40)
    (named : (n : ℕ) → n < k.codes → (k.valid (k.symbol n) ≡ true) × (k.code (k.symbol n) ≡ n))
    (text : List ℕ) (row : List S) (s : Session K B) (on : StandsOn k d text row s) where
  abbrev e : Tree
  e = tree_of on.plan_of.tree

  front_here : IsFront e (codes_of k row) (front_pairs k d s)
  front_here = on.front_of e on.plan_of.accepted.formed on.plan_of.fields

  -- a pair of the front accepts exactly when the row belongs to the language
  pub fits_told : (r : Bool) → TellsAccepting s.plan.table (front_pairs k d s) r → Decides r (Belongs k text row)
  fits_told r tells = Decides-like r to from (tells e on.plan_of.fields)
    where
      by_front : In e (codes_of k row) → Fits e (codes_of k row)
      by_front = (language_by_fronts_lem e (codes_of k row) on.plan_of.accepted.formed).0

      to : (p : ℕ) × (i : ℕ) × InSet (front_pairs k d s) p i × Accepts e p i → Belongs k text row
      to (p, i, x, a) =
          in_belongs k alphabet named text on.plan_of.tree on.plan_of.accepted row on.symbols
          ((language_by_fronts_lem e (codes_of k row) on.plan_of.accepted.formed).1 (p, i, (front_here p i).0 x, a))

      from : Belongs k text row → (p : ℕ) × (i : ℕ) × InSet (front_pairs k d s) p i × Accepts e p i
      from h =
          let (p, i, x, a) = by_front (belongs_in k alphabet named text on.plan_of.tree on.plan_of.accepted row h) in
          (p, i, (front_here p i).1 x, a)

  pub need_told : (r : Result ℕ Refusal) → Right NeedOf s.plan.table (front_pairs k d s) r → NeedTold k text row r
  need_told (Ok n) right =
      (need_like k alphabet named text on.plan_of.tree on.plan_of.accepted row on.symbols n).1
      (right e (codes_of k row) on.plan_of.accepted.formed on.plan_of.accepted.spelled on.plan_of.fields front_here)
  need_told (Err x) right =
      let (is, none) = right e (codes_of k row) on.plan_of.accepted.formed on.plan_of.accepted.spelled on.plan_of.fields front_here in
      (is, stuck_from k alphabet named text on.plan_of.tree on.plan_of.accepted row on.symbols none)

  -- a hint's code is that of a symbol, which is a hint
  pub code_told : (c : ℕ) → Right HintOf s.plan.table (front_pairs k d s) (Ok c) → (c < k.codes) × IsHint k text row (k.symbol c)
  code_told c right =
      let h = right e (codes_of k row) on.plan_of.accepted.formed on.plan_of.accepted.spelled on.plan_of.fields front_here in (
        hint_code k alphabet named text on.plan_of.tree on.plan_of.accepted row on.symbols c h,
        hint_from k alphabet named text on.plan_of.tree on.plan_of.accepted row on.symbols c h,
      )

  pub refusal_told : (x : Refusal) → Right HintOf s.plan.table (front_pairs k d s) (Err x) → HintTold k text row (Err x)
  refusal_told x right =
      told (right e (codes_of k row) on.plan_of.accepted.formed on.plan_of.accepted.spelled on.plan_of.fields front_here)
    where
      told : ((x ≡ Complete) × In e (codes_of k row)) ⊎ ((x ≡ NoCompletion) × Stuck e (codes_of k row)) → HintTold k text row (Err x)
      told (inl (is, h)) = inl (is, in_belongs k alphabet named text on.plan_of.tree on.plan_of.accepted row on.symbols h)
      told (inr (is, h)) = inr (is, stuck_from k alphabet named text on.plan_of.tree on.plan_of.accepted row on.symbols h)
