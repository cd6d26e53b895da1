-- Where a quantifier stops: inside its bound, in one of its numbers or after the second.
use Rattle.std.proofs.Common.{◌≡◌, ℕ, ◌+◌, ◌-◌, ◌<◌, ◌≤◌, List, [], ◌∷◌, ◌++◌, length, take, sym, refl, ap, ◌∙◌, subst, inl, inr, arith}
use Rattle.std.proofs.lemmas.List.{length-take-le, length_push}
use Rattle.grammar.specs.Codes.{Digit}
use Rattle.grammar.specs.Ast.{Repetition, counted}
use Rattle.grammar.specs.Grammar.{byte, Digits, Number, Bound, Quantifier, done, number, exactly, between, any, some, maybe, with_bound}
use Rattle.grammar.specs.Reading.{AfterNumber, Anything, Read, Stops}
use Rattle.grammar.proofs.Texts.{same_byte, cut, reaches, put, put_same, length_put, byte_put, byte_put_before, push_same, byte_push}
use Rattle.grammar.proofs.Forward.{digits_on, number_on}
use Rattle.grammar.proofs.Local.{number_at}
use Rattle.grammar.proofs.Unique.{digits_over, number_one}

-- no digit stands at i
pub number_stops_first : {s : List ℕ} {i : ℕ} → i ≤ length s → (Digit (byte s i) → ⊥) → Stops ℕ Number AfterNumber s i i
number_stops_first {s} {i} l x =
    let s'' = put s i 48 in
    let d : Number s'' i (i + 1) 0 = number {c = 48} (byte_put s i 48 l) (omega arith, omega arith) done in
    record {
      ahead = omega arith;
      inside = l;
      begins = (s'', 0, put_same s i 48 l, subst (λ q. Number s'' i q 0) (sym (length_put s i 48 l)) d);
      over = λ s' j t e d a. no s' j t e d;
    }
  where
    no : (s' : List ℕ) (j t : ℕ) → take (i + 1) s ≡ take (i + 1) s' → Number s' i j t → ⊥
    no s' j t e (number a b c) = x (subst Digit (sym (same_byte s s' (i + 1) i e (omega arith) ∙ a)) b)

-- digits, and after them what follows no number
pub number_stops_after_digits : {s : List ℕ} {i q v : ℕ} → Digit (byte s i) → Digits s 3 (byte s i - 48) (i + 1) q v → q ≤ length s → (AfterNumber (byte s q) → ⊥) → (Digit (byte s q) → q ≡ i + 1 + 3) → Stops ℕ Number AfterNumber s i q
number_stops_after_digits {s} {i} {q} {v} x d l y z =
    let o = digits_on d in
    let e = cut s q in
    let g : Number s i q v = number refl x d in
    let g' : Number (take q s) i q v = number_at s (take q s) q e (omega arith) g in
    record {
      ahead = omega arith;
      inside = l;
      begins = (take q s, v, e, subst (λ w. Number (take q s) i w v) (sym (length-take-le q s l)) g');
      over = λ s' j t e d' a. no s' j t e d' a;
    }
  where
    no : (s' : List ℕ) (j t : ℕ) → take (q + 1) s ≡ take (q + 1) s' → Number s' i j t → AfterNumber (byte s' j) → ⊥
    no s' j t e (number a b c) f = digits_over s s' (q + 1) e d refl refl (omega arith) y z c f

-- the low stops
pub bound_stops_in_low : {s : List ℕ} {i : ℕ} → byte s i ≡ 123 → (p : ℕ) → Stops ℕ Number AfterNumber s (i + 1) p → Stops (ℕ × ℕ) Bound Anything s i p
bound_stops_in_low {s} {i} x p h =
    let l = h.ahead in
    let s₁ = h.begins.0 in
    let e₁ = h.begins.2 in
    let m = h.begins.1 in
    let s₂ = s₁ ++ 125 ∷ [] in
    let g = reaches s s₁ p e₁ h.inside in
    let e₂ : take (length s₁) s₁ ≡ take (length s₁) s₂ = push_same s₁ (length s₁) 125 (omega arith) in
    let e₃ : take p s ≡ take p s₂ = e₁ ∙ push_same s₁ p 125 g in
    let a : byte s₂ i ≡ 123 = sym (same_byte s s₂ p i e₃ (omega arith)) ∙ x in
    let d : Bound s₂ i (length s₁ + 1) (m, m) = exactly a (number_at s₁ s₂ (length s₁) e₂ (omega arith) h.begins.3) (byte_push s₁ 125) in
    record {
      ahead = omega arith;
      inside = h.inside;
      begins = (s₂, (m, m), e₃, subst (λ q. Bound s₂ i q (m, m)) (sym (length_push s₁ 125)) d);
      over = λ s' j t e d a. no s' j t e d;
    }
  where
    no : (s' : List ℕ) (j : ℕ) (t : ℕ × ℕ) → take (p + 1) s ≡ take (p + 1) s' → Bound s' i j t → ⊥
    no s' j t e (exactly {j = k} {m = m} a b c) = h.over s' k m e b (inr c)
    no s' j t e (between {k = k} {m = m} a b c d f) = h.over s' k m e b (inl c)

-- the high stops
pub bound_stops_in_high : {s : List ℕ} {i k least m : ℕ} → byte s i ≡ 123 → Read ℕ Number AfterNumber s least (i + 1) k m → byte s k ≡ 44 → (p : ℕ) → Stops ℕ Number AfterNumber s (k + 1) p → Stops (ℕ × ℕ) Bound Anything s i p
bound_stops_in_high {s} {i} {k} {least} {m} x r y p h =
    let l = h.ahead in
    let o = number_on r.derives in
    let s₁ = h.begins.0 in
    let e₁ = h.begins.2 in
    let n = h.begins.1 in
    let s₂ = s₁ ++ 125 ∷ [] in
    let g = reaches s s₁ p e₁ h.inside in
    let e₂ : take (length s₁) s₁ ≡ take (length s₁) s₂ = push_same s₁ (length s₁) 125 (omega arith) in
    let e₃ : take p s ≡ take p s₂ = e₁ ∙ push_same s₁ p 125 g in
    let a : byte s₂ i ≡ 123 = sym (same_byte s s₂ p i e₃ (omega arith)) ∙ x in
    let c : byte s₂ k ≡ 44 = sym (same_byte s s₂ p k e₃ (omega arith)) ∙ y in
    let d : Bound s₂ i (length s₁ + 1) (m, n) = between a (number_at s s₂ p e₃ (omega arith) r.derives) c (number_at s₁ s₂ (length s₁) e₂ (omega arith) h.begins.3) (byte_push s₁ 125) in
    record {
      ahead = omega arith;
      inside = h.inside;
      begins = (s₂, (m, n), e₃, subst (λ q. Bound s₂ i q (m, n)) (sym (length_push s₁ 125)) d);
      over = λ s' j t e d a. no h.ahead s' j t e d;
    }
  where
    no : k + 1 ≤ p → (s' : List ℕ) (j : ℕ) (t : ℕ × ℕ) → take (p + 1) s ≡ take (p + 1) s' → Bound s' i j t → ⊥
    no l s' j t e (exactly {j = k'} a b c) =
        let f = number_one s s' (p + 1) e r.derives refl (omega arith) r.after b (inr c) in
        let w = same_byte s s' (p + 1) k e (omega arith) in
        let w' = ap (byte s') f.0 in
        omega arith
    no l s' j t e (between {j = j'} {n = n'} a b c d q) =
        let f = number_one s s' (p + 1) e r.derives refl (omega arith) r.after b (inl c) in
        h.over s' j' n' e (subst (λ z. Number s' (z + 1) j' n') (sym f.0) d) (inr q)

-- two numbers, and a comma after them
pub bound_stops_after_high : {s : List ℕ} {i k q least least' m n : ℕ} → byte s i ≡ 123 → Read ℕ Number AfterNumber s least (i + 1) k m → byte s k ≡ 44 → Read ℕ Number AfterNumber s least' (k + 1) q n → (byte s q ≡ 125 → ⊥) → Stops (ℕ × ℕ) Bound Anything s i q
bound_stops_after_high {s} {i} {k} {q} {least} {least'} {m} {n} x r y r' z =
    let o = number_on r.derives in
    let o' = number_on r'.derives in
    let l = r'.inside in
    let s₂ = put s q 125 in
    let e₃ : take q s ≡ take q s₂ = put_same s q 125 l in
    let a : byte s₂ i ≡ 123 = byte_put_before s q 125 i l (omega arith) ∙ x in
    let c : byte s₂ k ≡ 44 = byte_put_before s q 125 k l (omega arith) ∙ y in
    let d : Bound s₂ i (q + 1) (m, n) = between a (number_at s s₂ q e₃ (omega arith) r.derives) c (number_at s s₂ q e₃ (omega arith) r'.derives) (byte_put s q 125 l) in
    record {
      ahead = omega arith;
      inside = l;
      begins = (s₂, (m, n), e₃, subst (λ v. Bound s₂ i v (m, n)) (sym (length_put s q 125 l)) d);
      over = λ s' j t e d a. no (number_on r'.derives) s' j t e d;
    }
  where
    no : k + 1 < q → (s' : List ℕ) (j : ℕ) (t : ℕ × ℕ) → take (q + 1) s ≡ take (q + 1) s' → Bound s' i j t → ⊥
    no l s' j t e (exactly a b c) =
        let f = number_one s s' (q + 1) e r.derives refl (omega arith) r.after b (inr c) in
        let w = same_byte s s' (q + 1) k e (omega arith) in
        let w' = ap (byte s') f.0 in
        omega arith
    no l s' j t e (between {j = j'} {n = n'} a b c d v) =
        let f = number_one s s' (q + 1) e r.derives refl (omega arith) r.after b (inl c) in
        let g = number_one s s' (q + 1) e r'.derives (ap (λ w. w + 1) f.0) (omega arith) r'.after d (inr v) in
        z (same_byte s s' (q + 1) q e (omega arith) ∙ ap (byte s') g.0 ∙ v)

-- the bound stops
pub quantifier_stops_in_bound : {s : List ℕ} {i : ℕ} → byte s i ≡ 123 → (p : ℕ) → Stops (ℕ × ℕ) Bound Anything s i p → Stops Repetition Quantifier Anything s i p
quantifier_stops_in_bound {s} {i} x p h = record {
  ahead = h.ahead;
  inside = h.inside;
  begins = (h.begins.0, counted i h.begins.1.0 h.begins.1.1, h.begins.2, with_bound h.begins.3);
  over = λ s' j t e d a. no h.ahead s' j t e d;
}
  where
    no : i ≤ p → (s' : List ℕ) (j : ℕ) (t : Repetition) → take (p + 1) s ≡ take (p + 1) s' → Quantifier s' i j t → ⊥
    no l s' j t e (any a) = let w = same_byte s s' (p + 1) i e (omega arith) in omega arith
    no l s' j t e (some a) = let w = same_byte s s' (p + 1) i e (omega arith) in omega arith
    no l s' j t e (maybe a) = let w = same_byte s s' (p + 1) i e (omega arith) in omega arith
    no l s' j t e (with_bound {b = b} a) = h.over s' j b e a tt
