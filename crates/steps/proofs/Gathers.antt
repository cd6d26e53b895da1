-- Calls that put pairs into the back, one after another.
use Rattle.std.proofs.Common.{◌≡◌, ℕ, false, Ok, Err, Result, sym, refl, ap, ◌∙◌, subst, arith}
use Rattle.refusals.specs.declared.Refusal.{Refusal}
use Rattle.banks.specs.Pairs.{Pairs, within, ◌∪◌, ◌∩◌, ◌⊆◌}
use Rattle.banks.specs.Meaning.{Meaning, Facts, Keeps, Put, grown}
use Rattle.banks.proofs.Sets.{same_pairs, keeps_itself}
use Rattle.steps.specs.Gathered.{Ready, Gathered}

module _ {B : Type 0} (m : Meaning B) where
  -- one call's changes after another's
  pub keeps_both : (b b₁ b₂ : B) → Keeps m b b₁ → Keeps m b₁ b₂ → Keeps m b b₂
  keeps_both b b₁ b₂ k l = record {
    stands = l.stands;
    same_widths = l.same_widths ∙ k.same_widths;
    same_holds = λ s. ((λ h. (l.same_holds s).0 ((k.same_holds s).0 h)), (λ h. (k.same_holds s).1 ((l.same_holds s).1 h)));
  }

  -- one call gathers what it puts
  pub gathered_put : (new : Pairs) (b : B) (r : Result (Unit {0}) Refusal) (b' : B) → Put m new b r b' → Gathered m new b r b'
  gathered_put new b (Ok u) b' h = record { keeps = h.keeps; front_stays = h.front_stays; answered = h.answered }
  gathered_put new b (Err e) b' h =
      record { keeps = h.keeps; front_stays = h.front_stays; answered = (h.answered.0, h.answered.1) }

  -- an equal set
  pub gathered_same :
      (s t : Pairs) (b : B) (r : Result (Unit {0}) Refusal) (b' : B) → ((p i : ℕ) → s p i ≡ t p i) → Gathered m s b r b' → Gathered m t b r b'
  gathered_same s t b r b' e h = subst (λ (u : Pairs). Gathered m u b r b') (same_pairs s t e) h

  -- no call gathers nothing
  pub gathered_none : (new : Pairs) (b : B) → ((p i : ℕ) → new p i ≡ false) → Ready m b → Gathered m new b (Ok tt) b
  gathered_none new b e h =
      let same : m.back b ≡ grown m b new =
      same_pairs (m.back b) (grown m b new) (λ p i. let z = e p i in grind arith) in
      record { keeps = keeps_itself m b h.stands; front_stays = refl; answered = (subst (m.holds b) same h.held, same) }

  -- after calls that were not refused the bank is ready again
  pub gathered_ready : (s : Pairs) (b b₁ : B) → Gathered m s b (Ok tt) b₁ → Ready m b₁
  gathered_ready s b b₁ h = record {
    stands = h.keeps.stands;
    held = subst (m.holds b₁) (sym h.answered.1) ((h.keeps.same_holds (grown m b s)).0 h.answered.0);
  }

  grown_more : (s t : Pairs) (b b₁ : B) → Gathered m s b (Ok tt) b₁ → grown m b₁ t ≡ grown m b (s ∪ t)
  grown_more s t b b₁ h =
      ap (λ (u : Pairs). u ∪ (t ∩ within (m.widths b₁))) h.answered.1
      ∙ ap (λ (w : ℕ → ℕ). grown m b s ∪ (t ∩ within w)) h.keeps.same_widths
      ∙ same_pairs (grown m b s ∪ (t ∩ within (m.widths b))) (grown m b (s ∪ t)) (λ p i. grind arith)

  -- calls after calls that were not refused
  pub gathered_more :
      (s t : Pairs) (b b₁ : B) (r : Result (Unit {0}) Refusal) (b₂ : B)
      → Gathered m s b (Ok tt) b₁ → Gathered m t b₁ r b₂ → Gathered m (s ∪ t) b r b₂
  gathered_more s t b b₁ (Ok u) b₂ h k =
      let same = grown_more s t b b₁ h in
      record {
        keeps = keeps_both b b₁ b₂ h.keeps k.keeps;
        front_stays = k.front_stays ∙ h.front_stays;
        answered = (subst (m.holds b) same ((h.keeps.same_holds (grown m b₁ t)).1 k.answered.0), k.answered.1 ∙ same);
      }
  gathered_more s t b b₁ (Err e) b₂ h k =
      let same = grown_more s t b b₁ h in
      record {
        keeps = keeps_both b b₁ b₂ h.keeps k.keeps;
        front_stays = k.front_stays ∙ h.front_stays;
        answered = (
          k.answered.0,
          λ can. k.answered.1 ((h.keeps.same_holds (grown m b₁ t)).0 (subst (m.holds b) (sym same) can)),
        );
      }

  -- a refusal of some pairs is a refusal of more
  pub gathered_refused :
      Facts m → (s t : Pairs) (b : B) (e : Refusal) (b₁ : B) → m.standing b → s ⊆ t
      → Gathered m s b (Err e) b₁ → Gathered m t b (Err e) b₁
  gathered_refused facts s t b e b₁ stands sub h = record {
    keeps = h.keeps;
    front_stays = h.front_stays;
    answered = (
      h.answered.0,
      λ can. h.answered.1 (facts.fewer b (grown m b s) (grown m b t) stands
          (λ p i x. let z = sub p i in grind arith) can),
    );
  }
