-- What the calls of a list bank do to its meaning.
use Rattle.std.specs.Prelude.{◌≡◌, ℕ, ◌-◌, ◌≤◌, false, ◌&&◌, [], ◌∷◌, Ok, Err, Result, ◌≢◌, nat_le, refl}
use Rattle.std.proofs.Common.{sym, ap, subst, ◌∙◌, ⊎_elim, arith}
use Rattle.std.proofs.lemmas.Bool.{cases_eq}
use Rattle.std.proofs.lemmas.Bool.Decides.{nat_tests}
use Rattle.refusals.specs.declared.Refusal.{Refusal}
use Rattle.widths.specs.Width.{width_in}
use Rattle.widths.proofs.Rows.{width_in_past}
use Rattle.banks.specs.Pairs.{Pairs, only, moved, within, ◌∪◌, ◌∩◌}
use Rattle.banks.specs.Meaning.{Put}
use Rattle.banks.proofs.Sets.{same_pairs, nothing_new}
use Rattle.list_bank.specs.declared.pairs.PairList.{PairList}
use Rattle.list_bank.specs.declared.bank.ListBank.{ListBank}
use Rattle.list_bank.specs.Listed.{listed, Short}
use Rattle.list_bank.specs.Means.{pairs_of, up_to, Gained, list_means}
use Rattle.list_bank.proofs.Inserts.{short_list, listed_past}

-- (0, 1) alone can be held
pub short_start : Short (only 0 1)
unfolding listed
short_start = ((0, 1) ∷ [], (let z : 1 ≤ 256 = omega arith in z), (λ p i e. grind (arith, nat_tests)))

-- the list took the new pairs, or had no room for them
pub put_done : (b : ListBank) (new bounded : Pairs) (r : Result (Unit {0}) Refusal) (back : PairList) → bounded ≡ (new ∩ within (width_in b.plan))
    → Gained (pairs_of b.back) bounded r (pairs_of back) → Put list_means new b r record { plan = b.plan; front = b.front; back = back }
put_done b new bounded (Ok u) back e g =
    let same = g ∙ ap (λ (v : Pairs). pairs_of b.back ∪ v) e in
    record {
      keeps = record { stands = tt; same_widths = refl; same_holds = λ s. ((λ h. h), (λ h. h)) };
      front_stays = refl;
      answered = (subst Short same (short_list back), same);
    }
put_done b new bounded (Err x) back e g =
    record {
      keeps = record { stands = tt; same_widths = refl; same_holds = λ s. ((λ h. h), (λ h. h)) };
      front_stays = refl;
      answered = (g.0, (λ h. g.1 (subst (λ (v : Pairs). Short (pairs_of b.back ∪ v)) (sym e) h)), g.2);
    }

-- there are no new pairs within the widths
pub put_nothing : (b : ListBank) (new : Pairs) → ((p i : ℕ) → (new p i && within (width_in b.plan) p i) ≡ false) → Put list_means new b (Ok tt) b
put_nothing b new h = put_done b new (new ∩ within (width_in b.plan)) (Ok tt) b.back refl (nothing_new (pairs_of b.back) new (within (width_in b.plan)) h)

-- new pairs at one place are within the widths where they are within that place's width
pub same_bound : (new : Pairs) (ws : ℕ → ℕ) (q width : ℕ) → width ≡ ws q → ((a j : ℕ) → (a ≢ q) → new a j ≡ false) → (new ∩ up_to width) ≡ (new ∩ within ws)
same_bound new ws q width e away = same_pairs (new ∩ up_to width) (new ∩ within ws) (λ a j. ⊎_elim
    (λ (h : a ≡ q). ap (λ (n : ℕ). new a j && (nat_le 1 j && nat_le j n)) (e ∙ sym (ap ws h)))
    (λ (ne : a ≡ q → ⊥). let f = away a j ne in grind arith)
    (cases_eq a q))

pub only_away : (q i a j : ℕ) → (a ≢ q) → only q i a j ≡ false
only_away q i a j ne = grind (arith, nat_tests)

pub moved_away : (s : Pairs) (p q n a j : ℕ) → (a ≢ q) → moved s p q n a j ≡ false
moved_away s p q n a j ne = grind (arith, nat_tests)

-- nothing at a number that is no place lies within the widths
pub away_past : (b : ListBank) (new : Pairs) (q : ℕ) → 65 ≤ q → ((a j : ℕ) → (a ≢ q) → new a j ≡ false)
    → (a j : ℕ) → (new a j && within (width_in b.plan) a j) ≡ false
away_past b new q h away a j = ⊎_elim
    (λ (e : a ≡ q). let z = width_in_past b.plan a (omega arith) in grind (arith, nat_tests))
    (λ (ne : a ≡ q → ⊥). let f = away a j ne in grind arith)
    (cases_eq a q)

-- nothing is moved from a number that is no place
pub none_moved : (b : ListBank) (p q n : ℕ) → 256 ≤ p → (a j : ℕ) → (moved (pairs_of b.front) p q n a j && within (width_in b.plan) a j) ≡ false
none_moved b p q n h a j = let z = listed_past b.front p (j - n) h in grind (arith, nat_tests)
