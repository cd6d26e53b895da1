-- What lay does, by what the step did to the bank.
use Rattle.std.proofs.Common.{◌≡◌, ℕ, true, Ok, Err, Result, sym, refl, subst}
use mathlib.Core.Path.{fun_ext}
use mathlib.Core.Logic.{∥∥₁_elim}
use Rattle.std.proofs.lemmas.Bool.{both_ways}
use Rattle.std.proofs.lemmas.Bool.Decides.{same_from_decides}
use Rattle.refusals.specs.declared.Refusal.{Refusal}
use Rattle.syntax.specs.TextLanguage.{tree_of}
use Rattle.symbols.specs.declared.kind.Kind.{Ghosts as KindGhosts}
use Rattle.tables.specs.declared.table.Table.{Table}
use Rattle.plans.specs.Made.{Made}
use Rattle.banks.specs.declared.Bank.{Ghosts as BankGhosts}
use Rattle.banks.specs.Pairs.{Pairs}
use Rattle.steps.specs.StepSet.{step_set}
use Rattle.steps.specs.Fronts.{IsStep, Stepped}
use Rattle.sessions.specs.declared.session.Session.{Session}
use Rattle.sessions.specs.Sessions.{Ready, front_pairs, LaidAs, LayDid}

-- a set of a made table has one step
one_step : (t : Table) (c : ℕ) (f g h : Pairs) → Made t → IsStep t c f g → IsStep t c f h → g ≡ h
one_step t c f g h (a, text, from) x y =
    let e = tree_of from.tree in
    fun_ext (λ q. fun_ext (λ j.
    same_from_decides (g q j) (h q j) (x e from.accepted.formed from.fields q j) (y e from.accepted.formed from.fields q j)))

module _ {K S B : Type 0} (k : KindGhosts K S) (d : BankGhosts B) (s : Session K B) (after : B) (x : S) where
  abbrev s' : Session K B
  s' = record { plan = s.plan; bank = after }

  laid_as :
      (r : Result (Unit {0}) Refusal) → Stepped d.means s.plan.table (k.code x) s.bank r after
      → IsStep s.plan.table (k.code x) (front_pairs k d s) (step_set s.plan.table (k.code x) (front_pairs k d s)) → LaidAs k d s x r s'
  laid_as (Ok u) st step =
      let (can, is) = st.answered in
      (subst (λ f. IsStep s.plan.table (k.code x) (front_pairs k d s) f) (sym is) step, subst (λ f. d.means.holds s.bank f) (sym is) can)
  laid_as (Err e) st step =
      let (why, cannot, stays) = st.answered in (
        why,
        stays,
        λ f other held.
            ∥∥₁_elim s.plan.made (λ (a : ⊥) b. absurd a) (λ made.
            cannot (subst (λ g. d.means.holds s.bank g) (one_step s.plan.table (k.code x) (front_pairs k d s) f _ made other step) held)),
      )

  pub lay_did :
      (r : Result (Unit {0}) Refusal) (c : ℕ) → k.valid x ≡ true → c ≡ k.code x
      → (Ready k d s → Stepped d.means s.plan.table c s.bank r after)
      → (Ready k d s → IsStep s.plan.table c (front_pairs k d s) (step_set s.plan.table c (front_pairs k d s))) → LayDid k d s x r s'
  lay_did r c valid is stepped step = record {
    plan_stays = refl;
    no_symbol = λ none. absurd (both_ways (k.valid x) none valid);
    symbol = λ _ ready.
        let st = subst (λ n. Stepped d.means s.plan.table n s.bank r after) is (stepped ready) in
        (laid_as r st (subst (λ n. IsStep s.plan.table n (front_pairs k d s) (step_set s.plan.table n (front_pairs k d s))) is (step ready)), st.fresh, st.keeps);
  }
