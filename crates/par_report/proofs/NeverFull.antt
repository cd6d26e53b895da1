-- A bit bank can hold every step, so laying on it is never refused with 20, FULL.
use Rattle.std.proofs.Common.{◌≡◌, ℕ, ◌+◌, false, Err, sym, subst, inl, inr}
use Rattle.std.proofs.lemmas.Bool.{and_parts, cases_Bool}
use Rattle.refusals.specs.declared.Refusal.{Refusal}
use Rattle.refusals.specs.declared.Refusal.TheVariants.{Symbol}
use Rattle.widths.specs.Width.{width_of}
use Rattle.tables.specs.declared.table.Table.{Table}
use Rattle.banks.specs.Pairs.{Pairs, within, ◌⊆◌}
use Rattle.bit_bank.specs.contracts.calls.BitBankBank.TheImpl.{ghosts as bits}
use Rattle.bit_bank.specs.declared.bank.BitBank.{BitBank}
use Rattle.steps.specs.StepSet.{leaving_below, step_set}
use Rattle.steps.proofs.Relation.{step_is}
use Rattle.symbols.specs.declared.kind.Kind.{Ghosts as KindGhosts}
use Rattle.sessions.specs.declared.session.Session.{Session}
use Rattle.sessions.specs.Calls.{Laid}
use Rattle.sessions.specs.Sessions.{Ready, front_pairs, Did}

-- a step lies within the widths
step_within : (t : Table) (c : ℕ) (f : Pairs) → step_set t c f ⊆ within (width_of t.widths)
step_within t c f q j x = (and_parts (leaving_below t c f (t.places + 1) q j) (within (width_of t.widths) q j) x).1

-- so a refused lay was one of a value that is no symbol
pub only_no_symbol :
    {K S : Type 0} (k : KindGhosts K S) (s t : Session K BitBank) (x : S) (e : Refusal) → Ready k bits s → Did k bits s (Laid x (Err e)) t
    → (e ≡ Symbol) × (k.valid x ≡ false)
only_no_symbol k s t x e ready did = elim (cases_Bool (k.valid x)) [
  | inl valid ↦
      let f = front_pairs k bits s in
      let table = s.plan.table in
      let (laid, after, keeps) = did.symbol valid ready in
      absurd (laid.2 (step_set table (k.code x) f) (step_is table (k.code x) f ready.inside)
      (subst (λ ws. step_set table (k.code x) f ⊆ within ws) (sym ready.widths_are) (step_within table (k.code x) f)))
  | inr none ↦ let is = (did.no_symbol none).0 in (cc, none)
]
