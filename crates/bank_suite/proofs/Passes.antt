-- What the first pass from the start leaves.
use Rattle.std.proofs.Common.{◌≡◌, ℕ, ◌+◌, ◌-◌, Bool, false, ◌&&◌, ◌||◌, eqb, leb, Ok, Err, Result, ap, ◌∙◌, arith}
use Rattle.std.proofs.lemmas.Bool.Decides.{nat_tests}
use Rattle.refusals.specs.declared.Refusal.{Refusal}
use Rattle.banks.specs.Pairs.{none, only, moved, within, ◌∩◌}
use Rattle.banks.specs.Meaning.{Meaning, Started, grown}
use Rattle.banks.proofs.Sets.{same_pairs, at_pair}
use Rattle.bank_suite.specs.Pass.{Passed, Begun}

-- of (0, 1) alone, (q, 1 + n) is moved
only_there : (back front : Bool) (ws w p q n i : ℕ) → back ≡ false → front ≡ eqb (i - n) 1 → ws ≡ w
    → (back || ((eqb p q && (leb n i && front)) && (leb 1 i && leb i ws))) ≡ ((eqb p q && eqb i (1 + n)) && (leb 1 i && leb i w))
only_there back front ws w p q n i b f e = grind (arith, nat_tests)

module _ {B : Type 0} (m : Meaning B) (ws : ℕ → ℕ) (q n : ℕ) (b : B) (s : Started m ws b) where
  moved_start : grown m b (moved (m.front b) 0 q n) ≡ (only q (1 + n) ∩ within ws)
  moved_start = same_pairs _ _ (λ p i.
      only_there (m.back b p i) (m.front b 0 (i - n)) (m.widths b p) (ws p) p q n i
      (at_pair (m.back b) none s.back_is p i)
      (at_pair (m.front b) (only 0 1) s.front_is 0 (i - n))
      (ap (λ (x : ℕ → ℕ). x p) s.widths_are))

  -- a start and a pass
  pub begun : (r : Result (Unit {0}) Refusal) (b' : B) → Passed m 0 q n b r b' → Begun m ws q n r b'
  begun (Ok u) b' p = record {
    stands = p.keeps.stands;
    widths_are = p.keeps.same_widths ∙ s.widths_are;
    back_is = p.back_is;
    holds_start = (p.keeps.same_holds (only 0 1)).0 s.holds_start;
    answered = p.answered.1 ∙ moved_start;
  }
  begun (Err x) b' p = record {
    stands = p.keeps.stands;
    widths_are = p.keeps.same_widths ∙ s.widths_are;
    back_is = p.back_is;
    holds_start = (p.keeps.same_holds (only 0 1)).0 s.holds_start;
    answered = (p.answered.0, p.answered.2 ∙ s.front_is);
  }
