-- Texts that agree up to a place; a text cut off, or one byte longer.
use Rattle.std.proofs.Common.{◌≡◌, ℕ, ◌+◌, ◌<◌, ◌≤◌, List, [], ◌∷◌, ◌++◌, length, get_or, take, sym, refl, ap, ◌∙◌, inl, inr, arith, get_or-take}
use Rattle.std.proofs.lemmas.List.{get_or_past, take-take, take_at, take-append-le, length-take, length-take-le, get_or_at, length_push}
use Rattle.std.proofs.lemmas.Bool.{cases_lt}
use Rattle.grammar.specs.Grammar.{byte}

-- texts that agree before n have one byte at each place before n
pub same_byte : (s s' : List ℕ) (n k : ℕ) → take n s ≡ take n s' → k < n → byte s k ≡ byte s' k
same_byte s s' n k e h = sym (get_or-take n s k 256 h) ∙ ap (λ x. get_or x k 256) e ∙ get_or-take n s' k 256 h

-- a place with a byte is inside the text
pub within : (s : List ℕ) (k : ℕ) → byte s k < 256 → k < length s
within s k h = elim (cases_lt k (length s)) [ inl l ↦ l | inr g ↦ absurd (omega (arith, get_or_past s k 256 g)) ]

-- from the end of the text on there is no byte
pub past : (s : List ℕ) (k : ℕ) → length s ≤ k → byte s k ≡ 256
past s k h = get_or_past s k 256 h

-- a text cut at p agrees with it before p
pub cut : (s : List ℕ) (p : ℕ) → take p s ≡ take p (take p s)
cut s p = sym (take-take p p s (omega arith))

-- a text that agrees with s before p reaches to p
pub reaches : (s s' : List ℕ) (p : ℕ) → take p s ≡ take p s' → p ≤ length s → p ≤ length s'
reaches s s' p e h = omega (arith, ap length e, length-take p s, length-take p s')

-- the first p bytes of s, and then c
pub put : List ℕ → ℕ → ℕ → List ℕ
put s p c = take p s ++ c ∷ []

module _ (s : List ℕ) (p c : ℕ) (h : p ≤ length s) where
  pub put_same : take p s ≡ take p (put s p c)
  unfolding put
  put_same = sym (take_at (take p s) (c ∷ []) p (length-take-le p s h))

  pub length_put : length (put s p c) ≡ p + 1
  unfolding put
  length_put = length_push (take p s) c ∙ ap (λ v. v + 1) (length-take-le p s h)

  pub byte_put : byte (put s p c) p ≡ c
  unfolding put
  byte_put = get_or_at (take p s) c [] 256 p (length-take-le p s h)

pub byte_put_before : (s : List ℕ) (p c k : ℕ) → p ≤ length s → k < p → byte (put s p c) k ≡ byte s k
byte_put_before s p c k h l = sym (same_byte s (put s p c) p k (put_same s p c h) l)

-- one byte more after a whole text
pub push_same : (s : List ℕ) (p c : ℕ) → p ≤ length s → take p s ≡ take p (s ++ c ∷ [])
push_same s p c h = sym (take-append-le p s (c ∷ []) h)

pub byte_push : (s : List ℕ) (c : ℕ) → byte (s ++ c ∷ []) (length s) ≡ c
byte_push s c = get_or_at s c [] 256 (length s) refl
