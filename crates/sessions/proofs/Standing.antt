-- A session goes on standing on its pattern and the row that the calls lay.
use Rattle.std.proofs.Common.{◌≡◌, ℕ, true, eqb, List, [], ◌∷◌, ◌++◌, Ok, Err, sym, subst, inl, inr, arith}
use Rattle.std.proofs.ByRecursion.{All-push}
use Rattle.std.proofs.lemmas.List.{map_push}
use Rattle.std.proofs.lemmas.Bool.{cases_Bool}
use Rattle.std.proofs.lemmas.Bool.Decides.{Decides-and, Decides-eqb, Decides-like}
use Rattle.automata.specs.Language.{Tree, WellFormed}
use Rattle.automata.specs.Step.{Step, Stands}
use Rattle.automata.proofs.Fronts.{front_by_step}
use Rattle.symbols.specs.declared.kind.Kind.{Ghosts as KindGhosts}
use Rattle.symbol_rows.specs.Rows.{codes_of}
use Rattle.tables.specs.declared.table.Table.{Table}
use Rattle.tables.specs.Tables.{TableOf}
use Rattle.widths.specs.Width.{width_of}
use Rattle.plans.specs.declared.plan.Plan.{Plan}
use Rattle.plans.specs.Plans.{PlanOf}
use Rattle.banks.specs.declared.Bank.{Ghosts as BankGhosts}
use Rattle.banks.specs.Pairs.{Pairs, only}
use Rattle.banks.specs.Meaning.{Started}
use Rattle.steps.specs.Fronts.{InSet, IsFront, IsStep}
use Rattle.steps.proofs.Turns.{started_fresh}
use Rattle.sessions.specs.declared.session.Session.{Session}
use Rattle.sessions.specs.Calls.{Call, Laid, Cleared, Fitted, Needed, Hinted, row_after}
use Rattle.sessions.specs.Sessions.{StandsOn, Ready, front_pairs, Did}

-- (0, 1) alone is the front of the empty row
start_front : (e : Tree) → IsFront e [] (only 0 1)
start_front e p i = Decides-and (eqb p 0) (eqb i 1) (Decides-eqb p 0) (Decides-eqb i 1)

-- the step of the front of a row is the front of the row with the symbol
front_more :
    (e : Tree) (t : Table) (w : List ℕ) (c : ℕ) (f g : Pairs) → WellFormed e → TableOf e t → IsFront e w f → IsStep t c f g
    → IsFront e (w ++ (c ∷ [])) g
front_more e t w c f g formed table front step q j =
    Decides-like (g q j) (λ x. (front_by_step e w c q j).1 (to x)) (λ x. from ((front_by_step e w c q j).0 x)) (step e formed table q j)
  where
    to : Step e c (InSet f) q j → Step e c (Stands e w) q j
    to (held, (p, i, x, link)) = (held, (p, i, (front p i).0 x, link))

    from : Step e c (Stands e w) q j → Step e c (InSet f) q j
    from (held, (p, i, x, link)) = (held, (p, i, (front p i).1 x, link))

module _ {K S B : Type 0} (k : KindGhosts K S) (d : BankGhosts B) (text : List ℕ) where
  -- a session whose bank was just started
  pub stands_started : (s : Session K B) → PlanOf k text s.plan → Started d.means (width_of s.plan.table.widths) s.bank → StandsOn k d text [] s
  stands_started s plan h = record {
    plan_of = plan;
    ready = started_fresh d.means s.plan.table s.bank h;
    symbols = tt;
    front_of = λ e formed table. subst (λ f. IsFront e [] f) (sym h.front_is) (start_front e);
  }

  -- the same row, and a front that stayed
  stands_still : (row : List S) (s s' : Session K B) → StandsOn k d text row s → s'.plan ≡ s.plan → Ready k d s' → front_pairs k d s' ≡ front_pairs k d s → StandsOn k d text row s'
  stands_still row s s' on plan ready front = record {
    plan_of = subst (λ (p : Plan K). PlanOf k text p) (sym plan) on.plan_of;
    ready = ready;
    symbols = on.symbols;
    front_of = λ e formed table.
        subst (λ f. IsFront e (codes_of k row) f) (sym front) (on.front_of e formed (subst (λ (p : Plan K). TableOf e p.table) plan table));
  }

  -- a symbol more, and the step of the front
  stands_laid :
      (row : List S) (x : S) (s s' : Session K B) → StandsOn k d text row s → k.valid x ≡ true → s'.plan ≡ s.plan → Ready k d s'
      → IsStep s.plan.table (k.code x) (front_pairs k d s) (front_pairs k d s') → StandsOn k d text (row ++ (x ∷ [])) s'
  stands_laid row x s s' on valid plan ready step = record {
    plan_of = subst (λ (p : Plan K). PlanOf k text p) (sym plan) on.plan_of;
    ready = ready;
    symbols = All-push (λ y. k.valid y ≡ true) row x on.symbols valid;
    front_of = λ e formed table.
        let here = subst (λ (p : Plan K). TableOf e p.table) plan table in
        subst (λ w. IsFront e w (front_pairs k d s')) (sym (map_push k.code row x))
        (front_more e s.plan.table (codes_of k row) (k.code x) (front_pairs k d s) (front_pairs k d s') formed here (on.front_of e formed here) step);
  }

  stands_same : (row : List S) (s s' : Session K B) → s' ≡ s → StandsOn k d text row s → StandsOn k d text row s'
  stands_same row s s' is on = subst (λ v. StandsOn k d text row v) (sym is) on

  -- whatever call is made
  pub stands_after : (row : List S) (c : Call S) (s s' : Session K B) → StandsOn k d text row s → Did k d s c s' → StandsOn k d text (row_after row c) s'
  stands_after row (Laid x (Ok u)) s s' on did = elim (cases_Bool (k.valid x)) [
    | inl valid ↦
        let (laid, ready, keeps) = did.symbol valid on.ready in
        stands_laid row x s s' on valid did.plan_stays ready laid.0
    | inr bad ↦ let is = (did.no_symbol bad).0 in absurd (let z : ◌≡◌ {A = ℕ} 0 1 = cc in omega arith)
  ]
  stands_after row (Laid x (Err r)) s s' on did = elim (cases_Bool (k.valid x)) [
    | inl valid ↦
        let (laid, ready, keeps) = did.symbol valid on.ready in
        stands_still row s s' on did.plan_stays ready laid.1
    | inr bad ↦ stands_same row s s' (did.no_symbol bad).1 on
  ]
  stands_after row Cleared s s' on (plan, started) =
      stands_started s' (subst (λ (p : Plan K). PlanOf k text p) (sym plan) on.plan_of)
      (subst (λ (p : Plan K). Started d.means (width_of p.table.widths) s'.bank) (sym plan) started)
  stands_after row (Fitted b) s s' on did = stands_same row s s' did.0 on
  stands_after row (Needed old new r) s s' on did = stands_same row s s' did.stays on
  stands_after row (Hinted old new r) s s' on did = stands_same row s s' did.stays on
