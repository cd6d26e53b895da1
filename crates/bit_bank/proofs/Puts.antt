-- What the calls of a bit bank do to its meaning.
use Rattle.std.specs.Prelude.{◌≡◌, ℕ, ◌+◌, ◌-◌, ◌*◌, ◌<◌, ◌≤◌, min, false, ◌&&◌, ◌||◌, List, Ok, ◌==◌, refl}
use Rattle.std.proofs.Common.{sym, ap, subst, ◌∙◌, ⊎_elim, arith}
use Rattle.std.proofs.lemmas.Bool.{cases_eq}
use Rattle.std.proofs.lemmas.Bool.Decides.{nat_tests}
use Rattle.bits.specs.Bit.{bit_at}
use Rattle.banks.specs.Pairs.{Pairs, none, only, within, moved, ◌∪◌, ◌∩◌, ◌⊆◌}
use Rattle.banks.specs.Meaning.{Keeps, Put, grown}
use Rattle.banks.specs.Raises.{raise_by}
use Rattle.banks.specs.declared.Raise.{Raise}
use Rattle.banks.proofs.Sets.{same_pairs, at_pair, nothing_new}
use Rattle.bit_bank.specs.declared.rows.Rows.{Rows}
use Rattle.bit_bank.specs.Row.{row_of}
use Rattle.bit_bank.specs.declared.bank.BitBank.{BitBank}
use Rattle.bit_bank.specs.Join.{joined}
use Rattle.bit_bank.specs.Means.{row_widths, pairs_in, bit_means}
use Rattle.bit_bank.proofs.Stand.{put_pair, join_row}

-- the widths stay, and so does what can be held, where the rows stay
pub keeps_rows : (b : BitBank) (front back : List ℕ) → Keeps bit_means b record { rows = b.rows; front = front; back = back }
keeps_rows b front back = record { stands = tt; same_widths = refl; same_holds = λ s. ((λ h. h), (λ h. h)) }

-- the back with new pairs lies within the widths
held : (b : BitBank) (new : Pairs) → grown bit_means b new ⊆ within (row_widths b.rows)
unfolding pairs_in
held b new p i e = grind arith

-- the new pairs are in the back
pub put_done : (b : BitBank) (new : Pairs) (back : List ℕ) → pairs_in b.rows back ≡ grown bit_means b new
    → Put bit_means new b (Ok tt) record { rows = b.rows; front = b.front; back = back }
put_done b new back e = record { keeps = keeps_rows b b.front back; front_stays = refl; answered = (held b new, e) }

-- there are no new pairs within the widths
pub put_nothing : (b : BitBank) (new : Pairs) → ((p i : ℕ) → (new p i && within (row_widths b.rows) p i) ≡ false) → Put bit_means new b (Ok tt) b
put_nothing b new h = put_done b new b.back (nothing_new (pairs_in b.rows b.back) new (within (row_widths b.rows)) h)

-- a pair outside the widths is left out
pub left_out : (ws : ℕ → ℕ) (q j : ℕ) → within ws q j ≡ false → (p i : ℕ) → (only q j p i && within ws p i) ≡ false
left_out ws q j h p i = ⊎_elim
    (λ (e : p ≡ q). let f : ws p ≡ ws q = ap ws e in grind (arith, nat_tests))
    (λ (ne : p ≡ q → ⊥). grind (arith, nat_tests))
    (cases_eq p q)

-- the start pair lies within the widths
only_start : (ws : ℕ → ℕ) (s : Pairs) → ws 0 ≡ 1 → s ≡ none → (s ∪ (only 0 1 ∩ within ws)) ≡ only 0 1
only_start ws s w e = same_pairs (s ∪ (only 0 1 ∩ within ws)) (only 0 1) (λ p i.
    let z : s p i ≡ false = at_pair s none e p i in
    ⊎_elim
    (λ (h : p ≡ 0). let f : ws p ≡ ws 0 = ap ws h in grind (arith, nat_tests))
    (λ (ne : p ≡ 0 → ⊥). grind (arith, nat_tests))
    (cases_eq p 0))

-- the start pair alone, put into cleared words
pub start_pair : (rows : Rows) (ws after : List ℕ) → (row_of rows.list 0).width ≡ 1 → pairs_in rows ws ≡ none
    → ((a : ℕ) → bit_at after a ≡ (bit_at ws a || a == 64 * (row_of rows.list 0).base + 0))
    → pairs_in rows after ≡ only 0 1
start_pair rows ws after w e put =
    put_pair rows ws after 0 1 record { place = omega arith; low = omega arith; high = omega arith } put ∙ only_start (row_widths rows) (pairs_in rows ws) w e

-- the start pair can be held
pub holds_start : (ws : ℕ → ℕ) → ws 0 ≡ 1 → only 0 1 ⊆ within ws
holds_start ws w p i e = ⊎_elim
    (λ (h : p ≡ 0). let f : ws p ≡ ws 0 = ap ws h in grind (arith, nat_tests))
    (λ (ne : p ≡ 0 → ⊥). grind (arith, nat_tests))
    (cases_eq p 0)

-- a carry that joined the row of p into that of q
module _ (b : BitBank) (raise : Raise) (p q s n to end : ℕ) (after : List ℕ) (hp : p < 65) (hq : q < 65) (s1 : s ≤ 1) (by : raise_by raise ≡ s)
    (n-is : n ≡ min ((row_of b.rows.list p).width) ((row_of b.rows.list q).width - raise_by raise))
    (to_is : to ≡ 64 * (row_of b.rows.list q).base + s) (end_is : end ≡ 64 * (row_of b.rows.list q).base + s + n)
    (merged : (a : ℕ) → bit_at after a ≡ joined b.back b.front to (64 * (row_of b.rows.list p).base) end a) where
  pub carry_done : Put bit_means (moved (bit_means.front b) p q (raise_by raise)) b (Ok tt) record { rows = b.rows; front = b.front; back = after }
  carry_done =
      subst (λ (x : ℕ). Put bit_means (moved (bit_means.front b) p q x) b (Ok tt) record { rows = b.rows; front = b.front; back = after }) (sym by)
      (put_done b (moved (bit_means.front b) p q s) after
      (join_row b.rows b.front b.back after p q s n to end hp hq s1
      (n-is ∙ ap (λ (x : ℕ). min ((row_of b.rows.list p).width) ((row_of b.rows.list q).width - x)) by) to_is end_is merged))
