-- The end of a step: the back becomes the front, or is dropped.
use Rattle.std.proofs.Common.{◌≡◌, ℕ, ◌+◌, eqb, Ok, Err, Result, sym, refl, ap, ◌∙◌, subst, arith}
use Rattle.std.proofs.lemmas.Bool.{and_parts, eqb-true}
use Rattle.std.proofs.lemmas.Bool.Decides.{nat_tests}
use Rattle.refusals.specs.declared.Refusal.{Refusal}
use Rattle.banks.specs.Pairs.{Pairs, none, only, within, ◌∪◌, ◌∩◌, ◌⊆◌}
use Rattle.banks.specs.Meaning.{Meaning, Started, Turned, Dropped, grown}
use Rattle.banks.proofs.Sets.{same_pairs}
use Rattle.widths.specs.Width.{width_of}
use Rattle.tables.specs.declared.table.Table.{Table}
use Rattle.steps.specs.StepSet.{leaving_below, step_set}
use Rattle.steps.specs.Gathered.{Ended}
use Rattle.steps.specs.Fronts.{Fresh, Stepped}
use Rattle.steps.proofs.Gathers.{keeps_both}
use Rattle.steps.proofs.Leaves.{Below}

-- (0, 1) is within widths of which the start's is 1
only_within : (ws : ℕ → ℕ) → ws 0 ≡ 1 → only 0 1 ⊆ within ws
only_within ws w p i x =
    let (a, b) = and_parts (eqb p 0) (eqb i 1) x in
    let e : ws p ≡ 1 = ap ws (eqb-true p 0 a) ∙ w in
    grind (arith, nat_tests)

-- a bank that was just started with the table's widths
pub started_fresh : {B : Type 0} (m : Meaning B) (t : Table) (b : B) → Started m (width_of t.widths) b → Fresh m t b
started_fresh m t b h = record {
  stands = h.stands;
  widths_are = h.widths_are;
  inside = subst (λ (u : Pairs). u ⊆ within (width_of t.widths)) (sym h.front_is)
      (only_within (width_of t.widths) t.widths.start);
  back_is = h.back_is;
}

module _ {B : Type 0} (m : Meaning B) (t : Table) (c : ℕ) (b : B) (fresh : Fresh m t b) where
  -- what all links give, put into the empty back
  grown_all : grown m b (leaving_below t c (m.front b) (t.places + 1)) ≡ step_set t c (m.front b)
  grown_all =
      let all = leaving_below t c (m.front b) (t.places + 1) in
      ap (λ (u : Pairs). u ∪ (all ∩ within (m.widths b))) fresh.back_is
      ∙ ap (λ (w : ℕ → ℕ). none ∪ (all ∩ within w)) fresh.widths_are
      ∙ same_pairs (none ∪ step_set t c (m.front b)) (step_set t c (m.front b)) (λ q j. refl)

  step_inside : step_set t c (m.front b) ⊆ within (width_of t.widths)
  step_inside q j x = (and_parts (leaving_below t c (m.front b) (t.places + 1) q j) (within (width_of t.widths) q j) x).1

  -- the bank held all, and turns
  step_turned : (b₁ b₂ : B) → Below m t c b (t.places + 1) (Ok tt) b₁ → (m.standing b₁ → Turned m b₁ b₂) → Stepped m t c b (Ok tt) b₂
  step_turned b₁ b₂ h turns =
      let k = turns h.keeps.stands in
      let front : m.front b₂ ≡ step_set t c (m.front b) = k.front_is ∙ h.answered.1 ∙ grown_all in
      record {
        keeps = keeps_both m b b₁ b₂ h.keeps k.keeps;
        fresh = record {
          stands = k.keeps.stands;
          widths_are = k.keeps.same_widths ∙ h.keeps.same_widths ∙ fresh.widths_are;
          inside = subst (λ (u : Pairs). u ⊆ within (width_of t.widths)) (sym front) step_inside;
          back_is = k.back_is;
        };
        answered = (subst (m.holds b) grown_all h.answered.0, front);
      }

  -- the bank could not hold all, and drops its back
  step_dropped :
      (e : Refusal) (b₁ b₂ : B) → Below m t c b (t.places + 1) (Err e) b₁ → (m.standing b₁ → Dropped m b₁ b₂) → Stepped m t c b (Err e) b₂
  step_dropped e b₁ b₂ h drops =
      let k = drops h.keeps.stands in
      let front : m.front b₂ ≡ m.front b = k.front_stays ∙ h.front_stays in
      record {
        keeps = keeps_both m b b₁ b₂ h.keeps k.keeps;
        fresh = record {
          stands = k.keeps.stands;
          widths_are = k.keeps.same_widths ∙ h.keeps.same_widths ∙ fresh.widths_are;
          inside = subst (λ (u : Pairs). u ⊆ within (width_of t.widths)) (sym front) fresh.inside;
          back_is = k.back_is;
        };
        answered = (h.answered.0, (λ can. h.answered.1 (subst (m.holds b) (sym grown_all) can)), front);
      }

  -- either way
  pub step_ended :
      (r : Result (Unit {0}) Refusal) (b₁ b₂ : B) → Below m t c b (t.places + 1) r b₁ → (m.standing b₁ → Ended m r b₁ b₂) → Stepped m t c b r b₂
  step_ended (Ok u) b₁ b₂ h ends = step_turned b₁ b₂ h ends
  step_ended (Err e) b₁ b₂ h ends = step_dropped e b₁ b₂ h ends
