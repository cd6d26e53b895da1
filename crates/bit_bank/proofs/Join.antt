-- One word more of a row that is joined into another, each bit u places up, where u is 0 or 1.
use Rattle.std.proofs.Common.{◌≡◌, ℕ, ◌+◌, ◌-◌, ◌*◌, ◌/◌, ◌%◌, ◌^◌, ◌<◌, ◌≤◌, Bool, ◌&&◌, ◌||◌, ltb, leb, List, length, get_or, set, sym, ap, ◌∙◌, ap₂, ⊎_elim, arith}
use lib.Bits.{bit_and, bit_or}
use Rattle.std.proofs.lemmas.Bool.{cases_eq}
use Rattle.std.proofs.lemmas.Bool.Decides.{nat_tests}
use Rattle.bits.specs.Bit.{bit, bit_at}
use Rattle.bits.proofs.Laws.{bit_of_or, bit_shl, bit_mask, bit_shr, bit_past_word, bit_zero}
use Rattle.bits.proofs.Words.{bit_at_is, bit_at_word, bit_at_set_same, bit_at_set_other}
use Rattle.bit_bank.specs.Join.{joined}

-- what the word v has to show where it is joined into the word m of the row that begins at bit lo: its t lowest bits from the source
abbrev pub Part : List ℕ → ℕ → ℕ → ℕ → ℕ → ℕ → Type 0
Part src lo from m t v = (a : ℕ) → a / 64 ≡ m → bit v (a % 64) ≡ ((leb lo a && ltb a (64 * m + t)) && bit_at src (from + (a - lo)))

-- one word more: v is joined into the word m
module _ (d0 d src : List ℕ) (lo from m v t : ℕ) (room : m < length d) (t64 : t ≤ 64)
    (so_far : (a : ℕ) → bit_at d a ≡ joined d0 src lo from (64 * m) a) (here : Part src lo from m t v) where
  pub joined_more : (a : ℕ) → bit_at (set d m (bit_or (get_or d m 0) v)) a ≡ joined d0 src lo from (64 * m + t) a
  joined_more a = ⊎_elim
      (λ (e : a / 64 ≡ m).
      let f = so_far a in
      let old : bit (get_or d m 0) (a % 64) ≡ bit_at d a = sym (bit_at_is d a ∙ ap (λ (x : ℕ). bit (get_or d x 0) (a % 64)) e) in
      bit_at_set_same d m _ a room e ∙ bit_of_or (get_or d m 0) v (a % 64) ∙ ap₂ ◌||◌ old (here a e) ∙ grind (arith, nat_tests))
      (λ (ne : a / 64 ≡ m → ⊥).
      let f = so_far a in
      bit_at_set_other d m _ a ne ∙ f ∙ grind (arith, nat_tests))
      (cases_eq (a / 64) m)

-- what comes up from the word below from + k, where bits go u places up
abbrev pub Carried : List ℕ → ℕ → ℕ → ℕ → ℕ → Type 0
Carried src from u k over = (b : ℕ) → bit over b ≡ ((ltb b u && ltb 0 k) && bit_at src (64 * (from + k) - 1))

pub over_none : (src : List ℕ) (from u : ℕ) → Carried src from u 0 0
over_none src from u b = bit_zero b ∙ grind (arith, nat_tests)

-- the highest u bits of a word go on
pub over_more : (src : List ℕ) (from u k w : ℕ) → u ≤ 1 → w ≡ get_or src (from + k) 0 → w < 2 ^ 64 → Carried src from u (k + 1) (w / 2 ^ 1 / 2 ^ (63 - u))
over_more src from u k w u1 is fits b =
    bit_shr (w / 2 ^ 1) (63 - u) b
    ∙ bit_shr w 1 (63 - u + b)
    ∙ ⊎_elim
    (λ (h : 1 + (63 - u + b) ≡ 63).
    let y : bit_at src (64 * (from + k) + 63) ≡ bit w 63 = bit_at_word src (from + k) 63 (omega arith) ∙ ap (λ (n : ℕ). bit n 63) (sym is) in
    let z : bit w (1 + (63 - u + b)) ≡ bit w 63 = ap (bit w) h in
    let x : bit_at src (64 * (from + (k + 1)) - 1) ≡ bit_at src (64 * (from + k) + 63) =
    ap (bit_at src) (let e : 64 * (from + (k + 1)) - 1 ≡ 64 * (from + k) + 63 = omega arith in e) in
    grind (arith, nat_tests))
    (λ (h : 1 + (63 - u + b) ≡ 63 → ⊥). bit_past_word w (1 + (63 - u + b)) fits (omega arith) ∙ grind (arith, nat_tests))
    (cases_eq (1 + (63 - u + b)) 63)

-- a word u places up, with what comes up from below; r of its bits count, and t of the word's that it is joined into
pub raised : (src : List ℕ) (to from u k w over r t : ℕ) → u ≤ 1 → ((c : ℕ) → c < 64 → ltb c (r + u) ≡ ltb c t) → Carried src from u k over
    → ((c : ℕ) → c < 64 → bit w c ≡ (ltb c r && bit_at src (64 * (from + k) + c)))
    → Part src (64 * to + u) (64 * from) (to + k) t (bit_or (w * 2 ^ u % 2 ^ 64) over)
raised src to from u k w over r t u1 counts below here a e =
    let h = here (a % 64 - u) (omega arith) in
    let o = below (a % 64) in
    let b = counts (a % 64) (omega arith) in
    bit_of_or (w * 2 ^ u % 2 ^ 64) over (a % 64) ∙ ap (λ (x : Bool). x || bit over (a % 64)) (bit_shl w u (a % 64) (omega arith)) ∙ grind (arith, nat_tests)

-- a whole word, and the r lowest bits of one
pub all_bits : (src : List ℕ) (m w c : ℕ) → w ≡ get_or src m 0 → c < 64 → bit w c ≡ (ltb c 64 && bit_at src (64 * m + c))
all_bits src m w c is h = let f = bit_at_word src m c h in grind (arith, nat_tests)

pub low_bits : (src : List ℕ) (m r c : ℕ) → r < 64 → c < 64 → bit (bit_and (get_or src m 0) (1 * 2 ^ r % 2 ^ 64 - 1)) c ≡ (ltb c r && bit_at src (64 * m + c))
low_bits src m r c hr h = bit_mask (get_or src m 0) r c hr ∙ ap (λ (x : Bool). ltb c r && x) (sym (bit_at_word src m c h))
