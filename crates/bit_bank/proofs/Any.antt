-- Whether one of the bits from lo on, below hi, is set: a word m is looked at by a number v that has these bits of it.
use Rattle.std.proofs.Common.{◌≡◌, ℕ, ◌+◌, ◌-◌, ◌*◌, ◌/◌, ◌%◌, ◌^◌, ◌<◌, ◌≤◌, true, false, ◌&&◌, ltb, leb, List, get_or, sym, ap, ◌∙◌, ⊎_elim, arith}
use lib.Bits.{bit_and}
use Rattle.std.proofs.lemmas.Bool.{and_parts, leb-true, ltb-true, cases_lt, both_ways}
use Rattle.std.proofs.lemmas.Bool.Decides.{nat_tests}
use Rattle.bits.specs.Bit.{bit, bit_at}
use Rattle.bits.proofs.Laws.{bit_mask, bit_from, bit_past_word, bit_zero, some_bit}
use Rattle.bits.proofs.Words.{bit_at_word}

-- v has the bits of the word m that are looked for, and no others
abbrev pub Part : List ℕ → ℕ → ℕ → ℕ → ℕ → Type 0
Part src lo hi m v = (c : ℕ) → c < 64 → bit v c ≡ ((leb lo (64 * m + c) && ltb (64 * m + c) hi) && bit_at src (64 * m + c))

abbrev pub Within : ℕ → Type 0
Within v = (c : ℕ) → bit v c ≡ true → c < 64

abbrev pub Set : List ℕ → ℕ → ℕ → Type 0
Set src lo hi = (x : ℕ) × (lo ≤ x) × (x < hi) × (bit_at src x ≡ true)

pub word_within : (v : ℕ) → v < 2 ^ 64 → Within v
word_within v fits c e = ⊎_elim (λ (l : c < 64). l) (λ (l : 64 ≤ c). absurd (both_ways (bit v c) (bit_past_word v c fits l) e)) (cases_lt c 64)

pub mask_within : (w r : ℕ) → r < 64 → Within (bit_and w (1 * 2 ^ r % 2 ^ 64 - 1))
mask_within w r h c e =
    let g = and_parts (ltb c r) (bit w c) (sym (bit_mask w r c h) ∙ e) in
    let l = ltb-true c r g.0 in
    omega arith

module _ (src : List ℕ) (lo hi m v : ℕ) (part : Part src lo hi m v) where
  -- where v is not 0, a bit is set
  pub set_here : Within v → (v ≡ 0 → ⊥) → Set src lo hi
  set_here within ne =
      let b = some_bit v ne in
      let g = and_parts (leb lo (64 * m + b.0) && ltb (64 * m + b.0) hi) (bit_at src (64 * m + b.0)) (sym (part b.0 (within b.0 b.1)) ∙ b.1) in
      let h = and_parts (leb lo (64 * m + b.0)) (ltb (64 * m + b.0) hi) g.0 in
      (64 * m + b.0, leb-true lo (64 * m + b.0) h.0, ltb-true (64 * m + b.0) hi h.1, g.1)

  -- where v is 0, none of this word is
  pub none_here : v ≡ 0 → (x : ℕ) → x / 64 ≡ m → lo ≤ x → x < hi → bit_at src x ≡ true → ⊥
  none_here z x e l u on =
      let f = part (x % 64) (omega arith) in
      let s : 64 * m + x % 64 ≡ x = omega arith in
      let y : bit_at src (64 * m + x % 64) ≡ bit_at src x = ap (bit_at src) s in
      let o : bit v (x % 64) ≡ false = ap (λ (n : ℕ). bit n (x % 64)) z ∙ bit_zero (x % 64) in
      let no : bit v (x % 64) ≡ true = grind (arith, nat_tests) in
      both_ways (bit v (x % 64)) o no

-- the word that lo lies in, from lo on; that which hi lies in, below hi; one that both lie in; and one between
pub first_part : (src : List ℕ) (lo hi : ℕ) → lo / 64 < hi / 64 → Part src lo hi (lo / 64) (get_or src (lo / 64) 0 / 2 ^ (lo % 64) * 2 ^ (lo % 64) % 2 ^ 64)
first_part src lo hi lt c h =
    let e = bit_from (get_or src (lo / 64) 0) (lo % 64) c h in
    let f = bit_at_word src (lo / 64) c h in
    e ∙ grind (arith, nat_tests)

pub last_part : (src : List ℕ) (lo hi : ℕ) → lo / 64 < hi / 64 → Part src lo hi (hi / 64) (bit_and (get_or src (hi / 64) 0) (1 * 2 ^ (hi % 64) % 2 ^ 64 - 1))
last_part src lo hi lt c h =
    let e = bit_mask (get_or src (hi / 64) 0) (hi % 64) c (omega arith) in
    let f = bit_at_word src (hi / 64) c h in
    e ∙ grind (arith, nat_tests)

pub one_part : (src : List ℕ) (lo hi : ℕ) → lo / 64 ≡ hi / 64
    → Part src lo hi (lo / 64) (bit_and (get_or src (lo / 64) 0 / 2 ^ (lo % 64) * 2 ^ (lo % 64) % 2 ^ 64) (1 * 2 ^ (hi % 64) % 2 ^ 64 - 1))
one_part src lo hi same c h =
    let w : ℕ = get_or src (lo / 64) 0 / 2 ^ (lo % 64) * 2 ^ (lo % 64) % 2 ^ 64 in
    let e = bit_mask (get_or src (lo / 64) 0 / 2 ^ (lo % 64) * 2 ^ (lo % 64) % 2 ^ 64) (hi % 64) c (omega arith) in
    let g = bit_from (get_or src (lo / 64) 0) (lo % 64) c h in
    let f = bit_at_word src (lo / 64) c h in
    e ∙ grind (arith, nat_tests)

pub middle_part : (src : List ℕ) (lo hi m : ℕ) → lo / 64 < m → m < hi / 64 → Part src lo hi m (get_or src m 0)
middle_part src lo hi m l u c h = let f = bit_at_word src m c h in grind (arith, nat_tests)
