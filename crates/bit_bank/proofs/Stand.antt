-- What words stand for when some of their bits change.
use Rattle.std.specs.Prelude.{◌≡◌, ℕ, ◌+◌, ◌-◌, ◌*◌, ◌<◌, ◌≤◌, min, Bool, true, false, ◌&&◌, ◌||◌, ◌⊎◌, List, replicate, Decides, ◌==◌, ◌≢◌, nat_le, refl}
use Rattle.std.proofs.Common.{sym, ap, ◌∙◌, ⊎_elim, arith}
use Rattle.std.proofs.lemmas.List.{get_or_past}
use Rattle.std.proofs.lemmas.Bool.{cases_lt, cases_eq, cases_Bool, and_parts, leb-true, false≢true}
use Rattle.std.proofs.lemmas.Bool.Decides.{nat_tests}
use Rattle.bits.specs.Bit.{bit_at}
use Rattle.banks.specs.Pairs.{Pairs, none, only, within, moved, ◌∪◌, ◌∩◌}
use Rattle.banks.proofs.Sets.{same_pairs}
use Rattle.bit_bank.specs.declared.rows.Row.{Row}
use Rattle.bit_bank.specs.declared.rows.Rows.{Rows}
use Rattle.bit_bank.specs.Row.{row_of}
use Rattle.bit_bank.specs.Join.{joined}
use Rattle.bit_bank.proofs.Parts.{bit_at_zeros}
use Rattle.bit_bank.specs.Means.{row_widths, pairs_in}

-- a number from 65 on is no place, and has no width
pub width_past : (rows : Rows) (p : ℕ) → 65 ≤ p → row_widths rows p ≡ 0
width_past rows p h = ap (λ (r : Row). r.width) (get_or_past rows.list p record { base = 0; width = 0 } (let e = rows.long in omega arith))

-- what a pair within the widths tells
pub record Inside (rows : Rows) (p i : ℕ) : Type 0 where
  pub place : p < 65
  pub low : 1 ≤ i
  pub high : i ≤ (row_of rows.list p).width

pub inside : (rows : Rows) (p i : ℕ) → within (row_widths rows) p i ≡ true → Inside rows p i
inside rows p i h =
    let g = and_parts (nat_le 1 i) (nat_le i ((row_of rows.list p).width)) h in
    let x : 1 ≤ i = leb-true 1 i g.0 in
    let y : i ≤ (row_of rows.list p).width = leb-true i ((row_of rows.list p).width) g.1 in
    let l : p < 65 = ⊎_elim
    (λ (l : p < 65). l)
    (λ (l : 65 ≤ p). let z = width_past rows p l in let no_way : ⊥ = omega arith in absurd no_way)
    (cases_lt p 65) in
    record { place = l; low = x; high = y }

-- the sets are equal where each pair within the widths is in both or in neither
pub same_inside : (rows : Rows) (ws : List ℕ) (s : Pairs)
    → ((p i : ℕ) → Inside rows p i → bit_at ws (64 * (row_of rows.list p).base + (i - 1)) ≡ s p i)
    → ((p i : ℕ) → within (row_widths rows) p i ≡ false → s p i ≡ false)
    → pairs_in rows ws ≡ s
unfolding pairs_in
same_inside rows ws s here out = same_pairs (pairs_in rows ws) s (λ p i. ⊎_elim
    (λ (h : within (row_widths rows) p i ≡ true). ap (λ (t : Bool). t && bit_at ws (64 * (row_of rows.list p).base + (i - 1))) h ∙ here p i (inside rows p i h))
    (λ (h : within (row_widths rows) p i ≡ false). ap (λ (t : Bool). t && bit_at ws (64 * (row_of rows.list p).base + (i - 1))) h ∙ sym (out p i h))
    (cases_Bool (within (row_widths rows) p i)))

-- a pair within the widths is in the set where its bit is set, and no other pair is
pub pairs_in_inside : (rows : Rows) (ws : List ℕ) (p i : ℕ) → Inside rows p i → pairs_in rows ws p i ≡ bit_at ws (64 * (row_of rows.list p).base + (i - 1))
unfolding pairs_in
pairs_in_inside rows ws p i h = let a = h.low in let b = h.high in grind (arith, nat_tests)

pub pairs_in_outside : (rows : Rows) (ws : List ℕ) (p i : ℕ) → within (row_widths rows) p i ≡ false → pairs_in rows ws p i ≡ false
unfolding pairs_in
pairs_in_outside rows ws p i h = ap (λ (t : Bool). t && bit_at ws (64 * (row_of rows.list p).base + (i - 1))) h

-- what stands lies within the widths
pub stands_inside : (rows : Rows) (ws : List ℕ) (p i : ℕ) → pairs_in rows ws p i ≡ true → Inside rows p i
unfolding pairs_in
stands_inside rows ws p i h = inside rows p i (and_parts (within (row_widths rows) p i) (bit_at ws (64 * (row_of rows.list p).base + (i - 1))) h).0

-- where no bit in use is set, no pair stands
pub no_pairs : (rows : Rows) (ws : List ℕ) → ((a : ℕ) → a < 64 * rows.used → bit_at ws a ≡ false) → pairs_in rows ws ≡ none
no_pairs rows ws h = same_inside rows ws none
    (λ p i k. let a = k.low in let b = k.high in let r = rows.room p k.place in h (64 * (row_of rows.list p).base + (i - 1)) (omega arith))
    (λ p i k. refl)

-- words of which the bits in use are the same stand for the same pairs
pub same_words : (rows : Rows) (ws vs : List ℕ) → ((a : ℕ) → a < 64 * rows.used → bit_at ws a ≡ bit_at vs a) → pairs_in rows ws ≡ pairs_in rows vs
same_words rows ws vs h = same_inside rows ws (pairs_in rows vs)
    (λ p i k.
    let a = k.low in let b = k.high in let r = rows.room p k.place in
    h (64 * (row_of rows.list p).base + (i - 1)) (omega arith) ∙ sym (pairs_in_inside rows vs p i k))
    (pairs_in_outside rows vs)

-- words that are 0 stand for no pair
pub zeros : (rows : Rows) (n : ℕ) → pairs_in rows (replicate n 0) ≡ none
zeros rows n = no_pairs rows (replicate n 0) (λ a h. bit_at_zeros n a)

-- the bit of one pair within the widths is set
module _ (rows : Rows) (ws after : List ℕ) (q j : ℕ) (there : Inside rows q j)
    (put : (a : ℕ) → bit_at after a ≡ (bit_at ws a || a == 64 * (row_of rows.list q).base + (j - 1))) where
  pub put_pair : pairs_in rows after ≡ (pairs_in rows ws ∪ (only q j ∩ within (row_widths rows)))
  put_pair = same_inside rows after (pairs_in rows ws ∪ (only q j ∩ within (row_widths rows)))
      (λ p i k.
      let m = put (64 * (row_of rows.list p).base + (i - 1)) in
      let old = pairs_in_inside rows ws p i k in
      let a = k.low in let b = k.high in let e = there.low in let d = there.high in
      ⊎_elim
      (λ (lt : p < q). let f = rows.apart p q lt there.place in grind (arith, nat_tests))
      (λ (le : q ≤ p). ⊎_elim
      (λ (e : p ≡ q). let f = ap (λ (z : ℕ). (row_of rows.list z).base) e in grind (arith, nat_tests))
      (λ (ne : p ≡ q → ⊥). let f = rows.apart q p (omega arith) k.place in grind (arith, nat_tests))
      (cases_eq p q))
      (cases_lt p q))
      (λ p i h. let old = pairs_in_outside rows ws p i h in grind arith)

-- the row of p is joined into the row of q, each bit s places up, as far as both widths allow
module _ (rows : Rows) (front back after : List ℕ) (p q s n to end : ℕ) (hp : p < 65) (hq : q < 65) (s1 : s ≤ 1)
    (n-is : n ≡ min ((row_of rows.list p).width) ((row_of rows.list q).width - s))
    (to_is : to ≡ 64 * (row_of rows.list q).base + s) (end_is : end ≡ 64 * (row_of rows.list q).base + s + n)
    (merged : (a : ℕ) → bit_at after a ≡ joined back front to (64 * (row_of rows.list p).base) end a) where
  -- at q, what is joined in is what is moved
  same_place : (i : ℕ) → pairs_in rows after q i ≡ (pairs_in rows back ∪ (moved (pairs_in rows front) p q s ∩ within (row_widths rows))) q i
  unfolding pairs_in
  same_place i = let m = merged (64 * (row_of rows.list q).base + (i - 1)) in grind (arith, nat_tests)

  -- at other places nothing changes
  other_place : (r i : ℕ) → (r ≢ q) → Inside rows r i
      → bit_at after (64 * (row_of rows.list r).base + (i - 1)) ≡ (pairs_in rows back ∪ (moved (pairs_in rows front) p q s ∩ within (row_widths rows))) r i
  other_place r i ne k =
      let m = merged (64 * (row_of rows.list r).base + (i - 1)) in
      let old = pairs_in_inside rows back r i k in
      let a = k.low in let b = k.high in
      ⊎_elim
      (λ (lt : r < q). let f = rows.apart r q lt hq in grind (arith, nat_tests))
      (λ (le : q ≤ r). let f = rows.apart q r (omega arith) k.place in grind (arith, nat_tests))
      (cases_lt r q)

  pub join_row : pairs_in rows after ≡ (pairs_in rows back ∪ (moved (pairs_in rows front) p q s ∩ within (row_widths rows)))
  join_row = same_inside rows after (pairs_in rows back ∪ (moved (pairs_in rows front) p q s ∩ within (row_widths rows)))
      (λ r i k. ⊎_elim
      (λ (e : r ≡ q).
      sym (pairs_in_inside rows after r i k)
      ∙ ap (λ (x : ℕ). pairs_in rows after x i) e
      ∙ same_place i
      ∙ ap (λ (x : ℕ). (pairs_in rows back ∪ (moved (pairs_in rows front) p q s ∩ within (row_widths rows))) x i) (sym e))
      (λ (ne : r ≡ q → ⊥). other_place r i ne k)
      (cases_eq r q))
      (λ r i h. let old = pairs_in_outside rows back r i h in grind arith)

-- where p or q is no place, nothing is moved within the widths
pub nothing_moved : (rows : Rows) (front : List ℕ) (p q s : ℕ) → (65 ≤ p) ⊎ (65 ≤ q)
    → (r i : ℕ) → (moved (pairs_in rows front) p q s r i && within (row_widths rows) r i) ≡ false
unfolding pairs_in
nothing_moved rows front p q s far r i = ⊎_elim
    (λ (h : 65 ≤ p). let z = width_past rows p h in grind (arith, nat_tests))
    (λ (h : 65 ≤ q). let z = width_past rows q h in grind (arith, nat_tests))
    far

-- a count from low to high stands where one of the bits from low - 1 on, below high and the width, is set
pub look_row : (rows : Rows) (front : List ℕ) (p low high l h : ℕ) (r : Bool) → p < 65 → l ≡ low - 1 → h ≡ min high ((row_of rows.list p).width)
    → Decides r ((x : ℕ) × (l ≤ x) × (x < h) × (bit_at front (64 * (row_of rows.list p).base + x) ≡ true))
    → Decides r ((i : ℕ) × (low ≤ i) × (i ≤ high) × (pairs_in rows front p i ≡ true))
look_row rows front p low high l h r place el eh d = (
  (λ t.
      let x = d.0 t in
      let e : x.0 + 1 - 1 ≡ x.0 = omega arith in (
        x.0 + 1,
        omega arith,
        omega arith,
        pairs_in_inside rows front p (x.0 + 1) record { place = place; low = omega arith; high = omega arith }
            ∙ ap (λ (y : ℕ). bit_at front (64 * (row_of rows.list p).base + y)) e ∙ x.3,
      )),
  (λ s.
      let k = stands_inside rows front p s.0 s.3 in
      let a = k.low in let b = k.high in
      d.1 (s.0 - 1, omega arith, omega arith, sym (pairs_in_inside rows front p s.0 k) ∙ s.3)),
)

-- at a number that is no place nothing stands
pub look_none : (rows : Rows) (front : List ℕ) (p low high : ℕ) → 65 ≤ p → Decides false ((i : ℕ) × (low ≤ i) × (i ≤ high) × (pairs_in rows front p i ≡ true))
look_none rows front p low high h = (
  (λ t. absurd (false≢true t)),
  (λ s. let k = stands_inside rows front p s.0 s.3 in let a = k.place in let no_way : ⊥ = omega arith in absurd no_way),
)
