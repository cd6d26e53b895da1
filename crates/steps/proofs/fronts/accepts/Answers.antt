-- Some last from 1 on can be left, or none can; the start was looked at before.
use Rattle.std.proofs.Common.{rules, ◌≡◌, ℕ, ◌+◌, ◌-◌, ◌<◌, ◌≤◌, true, false, length, get_or, sym, refl, ◌∙◌, subst, inl, inr, ⊎_elim, arith}
use Rattle.std.specs.Bool.{MatchBool}
use Rattle.std.specs.List.{AllWithin, HoldsAt, range_with_len}
use Rattle.std.proofs.lemmas.Iterator.{cases_from_any, YieldsList-from_range}
use Rattle.std.proofs.lemmas.List.FromFn.{get_or-range_with_len, length-range_with_len}
use Rattle.std.proofs.lemmas.Bool.{both_ways, cases_Bool, cases_lt}
use Rattle.std.proofs.lemmas.Bool.Decides.{nat_tests, not_from_Decides}
use Rattle.widths.specs.Width.{width_of}
use Rattle.tables.specs.Masks.{has_place}
use Rattle.tables.specs.Tables.{low_of}
use Rattle.steps.specs.StepSet.{seen}
use Rattle.steps.proofs.Any.{Seen}
use Rattle.steps.proofs.Accepting.{last_accepts, none_accepts}
use Rattle.steps.proofs.fronts.accepts.Goals as goal
use Rattle.steps.proofs.fronts.accepts.Goals.{then-is_nullable, else-is_nullable}

pub returns-else-look : goal.returns-else-look
returns-else-look g c = λ fresh e table.
    let t = c.args.table.now in
    let f = g.B.Bank.means.front c.args.bank.now in
    let n = c.places.result in
    let standing = fresh.stands in
    let leaves = (λ (p : ℕ). seen f p (low_of t p) (width_of t.widths p)) in
    let any : MatchBool c.any.result
    ((k : ℕ) × (k < length (range_with_len 1 n)) × HoldsAt (λ p. (has_place t.lasts p ≡ true) × (leaves p ≡ true)) (range_with_len 1 n) k)
    (AllWithin (λ p. has_place t.lasts p ≡ true → leaves p ≡ false) (range_with_len 1 n) 0 (length (range_with_len 1 n))) =
    cases_from_any _ _ c.any.result (λ p. (has_place t.lasts p ≡ true) × (leaves p ≡ true)) (λ p. has_place t.lasts p ≡ true → leaves p ≡ false)
    c.any.ensures.ran (YieldsList-from_range 1 (n + 1) n refl (omega arith)) (λ x q k. search rules) (λ x q k. search rules) in
    elim (cases_Bool c.any.result) [
      | inl found ↦
          let (k, inside, holds) = rw found at any in
          let last = holds 0 in
          (λ _. last_accepts e t table f (get_or (range_with_len 1 n) k 0) last.0 last.1, λ _. found)
      | inr missed ↦
          let none = rw missed at any in
          let lasts : (k : ℕ) → k < t.places + 1 → has_place t.lasts k ≡ true → leaves k ≡ false = λ k below last. ⊎_elim
          (λ (z : k < 1). absurd (both_ways (has_place t.lasts k) (grind (arith, nat_tests)) last))
          (λ (some : 1 ≤ k).
          let is : get_or (range_with_len 1 n) (k - 1) 0 ≡ k = get_or-range_with_len 1 n (k - 1) 0 (omega (arith, c.places.ensures)) ∙ omega arith in
          subst (λ (p : ℕ). has_place t.lasts p ≡ true → leaves p ≡ false) is (none (k - 1) 0 (omega arith) (omega (arith, c.places.ensures, length-range_with_len 1 n))) last)
          (cases_lt k 1) in
          let start : t.nullable ≡ true → Seen f 0 1 1 → ⊥ = λ null. elim c.if-is_nullable.branch [
            | then-is_nullable w ↦ not_from_Decides w.look.result (w.look.ensures standing) (sym w.value-is ∙ c.if-look.false)
            | else-is_nullable w ↦ absurd (both_ways t.nullable (sym c.is_nullable.ensures ∙ w.if-is_nullable.false) null)
          ] in
          (λ x. absurd (both_ways c.any.result missed x), λ x. absurd (none_accepts e t table f fresh.inside start lasts x))
    ]
