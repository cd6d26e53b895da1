-- Where a unit stops: at its first byte, or at the face of a tile.
use Rattle.std.proofs.Common.{◌≡◌, ℕ, ◌+◌, ◌<◌, ◌≤◌, List, length, take, sym, refl, ap, ◌∙◌, subst, inl, inr, arith}
use Rattle.std.proofs.lemmas.List.{take-take}
use Rattle.std.proofs.lemmas.Bool.{cases_lt}
use Rattle.grammar.specs.Codes.{Codes, LetterUnit, ColourUnit, FaceUnit, codes_of_letter, codes_of_tile}
use Rattle.grammar.specs.Grammar.{byte, OneUnit, letter, tile}
use Rattle.grammar.specs.Reading.{Anything, Stops, Faults, Lacks}
use Rattle.refusals.specs.declared.Refusal.{Refusal}
use Rattle.grammar.proofs.Texts.{past, same_byte, put, put_same, length_put, byte_put, byte_put_before}

-- no unit begins with the byte at i
pub unit_stops_first : {u : ℕ} {s : List ℕ} {i : ℕ} → 1 ≤ u → u ≤ 2 → i ≤ length s → (u ≡ 1 → LetterUnit (byte s i) → ⊥) → (u ≡ 2 → ColourUnit (byte s i) → ⊥) → Stops Codes (OneUnit u) Anything s i i
unit_stops_first {u} {s} {i} a b l x y = record {
  ahead = omega arith;
  inside = l;
  begins = elim (cases_lt u 2) [ inl h ↦ as_letter (omega arith) | inr h ↦ as_tile (omega arith) ];
  over = λ s' j t e d f. no s' j t e d;
}
  where
    as_letter : u ≡ 1 → (s' : List ℕ) × (m : Codes) × (take i s ≡ take i s') × OneUnit u s' i (length s') m
    as_letter v =
        let s'' = put s i 97 in
        let d : OneUnit u s'' i (i + 1) (codes_of_letter 97) = letter v (byte_put s i 97 l) (inr (omega arith, omega arith)) in
        (s'', codes_of_letter 97, put_same s i 97 l, subst (λ q. OneUnit u s'' i q (codes_of_letter 97)) (sym (length_put s i 97 l)) d)

    as_tile : u ≡ 2 → (s' : List ℕ) × (m : Codes) × (take i s ≡ take i s') × OneUnit u s' i (length s') m
    as_tile v =
        let s₁ = put s i 82 in
        let n₁ : length s₁ ≡ i + 1 = length_put s i 82 l in
        let l₁ : i + 1 ≤ length s₁ = omega arith in
        let s₂ = put s₁ (i + 1) 48 in
        let n₂ : length s₂ ≡ i + 1 + 1 = length_put s₁ (i + 1) 48 l₁ in
        let b₁ : byte s₂ i ≡ 82 = byte_put_before s₁ (i + 1) 48 i l₁ (omega arith) ∙ byte_put s i 82 l in
        let b₂ : byte s₂ (i + 1) ≡ 48 = byte_put s₁ (i + 1) 48 l₁ in
        let d : OneUnit u s₂ i (i + 2) (codes_of_tile 82 48) = tile v b₁ (inr (inr (inr (inl refl)))) b₂ (inr (omega arith, omega arith)) in
        let e : take i s₁ ≡ take i s₂ = sym (take-take i (i + 1) s₁ (omega arith)) ∙ ap (take i) (put_same s₁ (i + 1) 48 l₁) ∙ take-take i (i + 1) s₂ (omega arith) in
        (s₂, codes_of_tile 82 48, put_same s i 82 l ∙ e, subst (λ q. OneUnit u s₂ i q (codes_of_tile 82 48)) (omega arith) d)

    no : (s' : List ℕ) (j : ℕ) (m : Codes) → take (i + 1) s ≡ take (i + 1) s' → OneUnit u s' i j m → ⊥
    no s' j m e (letter v w z) = x v (subst LetterUnit (sym (same_byte s s' (i + 1) i e (omega arith) ∙ w)) z)
    no s' j m e (tile v w z p q) = y v (subst ColourUnit (sym (same_byte s s' (i + 1) i e (omega arith) ∙ w)) z)

-- a colour, and no face after it
pub unit_stops_face : {u : ℕ} {s : List ℕ} {i : ℕ} → u ≡ 2 → ColourUnit (byte s i) → i + 1 ≤ length s → (FaceUnit (byte s (i + 1)) → ⊥) → Stops Codes (OneUnit u) Anything s i (i + 1)
unit_stops_face {u} {s} {i} v x l y =
    let s₂ = put s (i + 1) 48 in
    let b₁ : byte s₂ i ≡ byte s i = byte_put_before s (i + 1) 48 i l (omega arith) in
    let b₂ : byte s₂ (i + 1) ≡ 48 = byte_put s (i + 1) 48 l in
    let n₂ : length s₂ ≡ i + 1 + 1 = length_put s (i + 1) 48 l in
    let m : Codes = codes_of_tile (byte s i) 48 in
    let d : OneUnit u s₂ i (i + 2) m = tile v b₁ x b₂ (inr (omega arith, omega arith)) in
    record {
      ahead = omega arith;
      inside = l;
      begins = (s₂, m, put_same s (i + 1) 48 l, subst (λ q. OneUnit u s₂ i q m) (omega arith) d);
      over = λ s' j t e d f. no s' j t e d;
    }
  where
    no : (s' : List ℕ) (j : ℕ) (m : Codes) → take (i + 1 + 1) s ≡ take (i + 1 + 1) s' → OneUnit u s' i j m → ⊥
    no s' j m e (letter v' w z) = omega arith
    no s' j m e (tile v' w z p q) = y (subst FaceUnit (sym (same_byte s s' (i + 1 + 1) (i + 1) e (omega arith) ∙ p)) q)

-- the colour is lacking
pub colour_lacks : {u : ℕ} (s : List ℕ) (i : ℕ) (e : Refusal) → u ≡ 2 → i < length s → Lacks ColourUnit s i e → Faults Codes (OneUnit u) Anything s i e
colour_lacks {u} s i e v l (inl x) = subst (Faults Codes (OneUnit u) Anything s i) (sym x.0) (x.1.0, unit_stops_first (omega arith) (omega arith) (omega arith) (λ w z. absurd (omega arith)) (λ w. x.1.1))
colour_lacks s i e v l (inr x) = absurd (omega (arith, x.1))

-- the face is lacking
pub face_lacks : {u : ℕ} (s : List ℕ) (i : ℕ) (e : Refusal) → u ≡ 2 → ColourUnit (byte s i) → i < length s → Lacks FaceUnit s (i + 1) e → Faults Codes (OneUnit u) Anything s i e
face_lacks {u} s i e v c l (inl x) = subst (Faults Codes (OneUnit u) Anything s i) (sym x.0) (x.1.0, unit_stops_face v c (omega arith) x.1.1)
face_lacks {u} s i e v c l (inr x) =
    let f : byte s (i + 1) ≡ 256 = past s (i + 1) (omega (arith, x.1)) in
    subst (Faults Codes (OneUnit u) Anything s i) (sym x.0) (x.1, unit_stops_face v c (omega arith) (λ y. grind (arith, f, y)))
