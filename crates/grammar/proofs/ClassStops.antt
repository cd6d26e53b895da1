-- Where a class stops: inside its body.
use Rattle.std.proofs.Common.{◌≡◌, ℕ, ◌+◌, ◌<◌, ◌≤◌, List, [], ◌∷◌, ◌++◌, length, take, None, Option, sym, refl, ◌∙◌, subst, inl, arith}
use Rattle.std.proofs.lemmas.List.{length-take-le, length_push}
use Rattle.grammar.specs.Codes.{Codes, Letter, no_codes, codes_of_letter, codes_of_range, joined_codes, other_codes, codes_of}
use Rattle.grammar.specs.Ast.{Ast, class}
use Rattle.grammar.specs.Grammar.{byte, back_of, OneUnit, Body, Atom, nothing, one, range, tiles, one_unit, members, others, group}
use Rattle.grammar.specs.Reading.{AfterBody, Anything, Read, Stops}
use Rattle.grammar.proofs.Texts.{same_byte, cut, reaches, put, put_same, length_put, byte_put, byte_put_before, push_same, byte_push}
use Rattle.grammar.proofs.Forward.{unit_on}
use Rattle.grammar.proofs.Local.{unit_at, body_at}
use Rattle.grammar.proofs.Firsts.{FirstOfBody, unit_first, body_first, not_dash, not_hat, not_opening}
use Rattle.grammar.proofs.Unique.{unit_one}

-- no body begins with the byte at i, and it is no `]`
pub body_stops_first : {u : ℕ} {s : List ℕ} {i : ℕ} → i ≤ length s → (FirstOfBody u (byte s i) → ⊥) → Stops (Codes × Option ℕ) (Body u) AfterBody s i i
body_stops_first {u} {s} {i} l x =
    let d : Body u (take i s) i i (no_codes, None) = nothing in
    record {
      ahead = omega arith;
      inside = l;
      begins = (take i s, (no_codes, None), cut s i, subst (λ q. Body u (take i s) i q (no_codes, None)) (sym (length-take-le i s l)) d);
      over = λ s' j t e d a. x (subst (FirstOfBody u) (sym (same_byte s s' (i + 1) i e (omega arith))) (body_first d a));
    }

-- a letter with no `-` after it, and the rest stops
pub body_stops_after_letter : {u : ℕ} {s : List ℕ} {i : ℕ} → u ≡ 1 → Letter (byte s i) → (byte s (i + 1) ≡ 45 → ⊥) → (p : ℕ) → Stops (Codes × Option ℕ) (Body u) AfterBody s (i + 1) p → Stops (Codes × Option ℕ) (Body u) AfterBody s i p
body_stops_after_letter {u} {s} {i} v x y p h =
    let l = h.ahead in
    let s'' = h.begins.0 in
    let e'' = h.begins.2 in
    let z = same_byte s s'' p i e'' (omega arith) in
    record {
      ahead = omega arith;
      inside = h.inside;
      begins = (s'', (joined_codes (codes_of_letter (byte s i)) h.begins.1.0, h.begins.1.1), e'', one v (sym z) x h.begins.3);
      over = λ s' j t e d a. no h.ahead s' j t e d a;
    }
  where
    no : i + 1 ≤ p → (s' : List ℕ) (j : ℕ) (t : Codes × Option ℕ) → take (p + 1) s ≡ take (p + 1) s' → Body u s' i j t → AfterBody (byte s' j) → ⊥
    no l s' j t e nothing a = let z = same_byte s s' (p + 1) i e (omega arith) in omega arith
    no l s' j t e (one {m = m} {r = r} a b c d) f = h.over s' j (m, r) e d f
    no l s' j t e (range a b c d g k m) f = y (same_byte s s' (p + 1) (i + 1) e (omega arith) ∙ d)
    no l s' j t e (tiles a b c) f = omega arith

-- a dash, and no letter after it
pub body_stops_at_high : {u : ℕ} {s : List ℕ} {i : ℕ} → u ≡ 1 → Letter (byte s i) → byte s (i + 1) ≡ 45 → i + 2 ≤ length s → (Letter (byte s (i + 2)) → ⊥) → Stops (Codes × Option ℕ) (Body u) AfterBody s i (i + 2)
body_stops_at_high {u} {s} {i} v x y l z =
    let s'' = put s (i + 2) 97 in
    let n : length s'' ≡ i + 2 + 1 = length_put s (i + 2) 97 l in
    let b₀ : byte s'' i ≡ byte s i = byte_put_before s (i + 2) 97 i l (omega arith) in
    let b₁ : byte s'' (i + 1) ≡ 45 = byte_put_before s (i + 2) 97 (i + 1) l (omega arith) ∙ y in
    let b₂ : byte s'' (i + 2) ≡ 97 = byte_put s (i + 2) 97 l in
    let t : Codes × Option ℕ = (joined_codes (codes_of_range (byte s i) 97) no_codes, back_of i (byte s i) 97 None) in
    let d : Body u s'' i (i + 3) t = range v b₀ x b₁ b₂ (omega arith, omega arith) nothing in
    record {
      ahead = omega arith;
      inside = l;
      begins = (s'', t, put_same s (i + 2) 97 l, subst (λ q. Body u s'' i q t) (omega arith) d);
      over = λ s' j t e d a. no s' j t e d a;
    }
  where
    no : (s' : List ℕ) (j : ℕ) (t : Codes × Option ℕ) → take (i + 2 + 1) s ≡ take (i + 2 + 1) s' → Body u s' i j t → AfterBody (byte s' j) → ⊥
    no s' j t e nothing a = let w = same_byte s s' (i + 2 + 1) i e (omega arith) in omega arith
    no s' j t e (one a b c d) f =
        let w = same_byte s s' (i + 2 + 1) (i + 1) e (omega arith) in not_dash (body_first d f) (sym w ∙ y)
    no s' j t e (range a b c d g k m) f = z (subst Letter (sym (same_byte s s' (i + 2 + 1) (i + 2) e (omega arith) ∙ g)) k)
    no s' j t e (tiles a b c) f = omega arith

-- a range, and the rest stops
pub body_stops_after_range : {u : ℕ} {s : List ℕ} {i : ℕ} → u ≡ 1 → Letter (byte s i) → byte s (i + 1) ≡ 45 → Letter (byte s (i + 2)) → (p : ℕ) → Stops (Codes × Option ℕ) (Body u) AfterBody s (i + 3) p → Stops (Codes × Option ℕ) (Body u) AfterBody s i p
body_stops_after_range {u} {s} {i} v x y z p h =
    let l = h.ahead in
    let s'' = h.begins.0 in
    let e'' = h.begins.2 in
    let z₀ = same_byte s s'' p i e'' (omega arith) in
    let z₁ = same_byte s s'' p (i + 1) e'' (omega arith) in
    let z₂ = same_byte s s'' p (i + 2) e'' (omega arith) in
    record {
      ahead = omega arith;
      inside = h.inside;
      begins = (s'', (joined_codes (codes_of_range (byte s i) (byte s (i + 2))) h.begins.1.0, back_of i (byte s i) (byte s (i + 2)) h.begins.1.1), e'', range v (sym z₀) x (sym z₁ ∙ y) (sym z₂) z h.begins.3);
      over = λ s' j t e d a. no h.ahead s' j t e d a;
    }
  where
    no : i + 3 ≤ p → (s' : List ℕ) (j : ℕ) (t : Codes × Option ℕ) → take (p + 1) s ≡ take (p + 1) s' → Body u s' i j t → AfterBody (byte s' j) → ⊥
    no l s' j t e nothing a = let w = same_byte s s' (p + 1) i e (omega arith) in omega arith
    no l s' j t e (one a b c d) f =
        let w = same_byte s s' (p + 1) (i + 1) e (omega arith) in not_dash (body_first d f) (sym w ∙ y)
    no l s' j t e (range {m = m} {r = r} a b c d g k q) f = h.over s' j (m, r) e q f
    no l s' j t e (tiles a b c) f = omega arith

-- the first tile stops
pub body_stops_in_tile : {u : ℕ} {s : List ℕ} {i : ℕ} → u ≡ 2 → (byte s i ≡ 93 → ⊥) → (p : ℕ) → Stops Codes (OneUnit u) Anything s i p → Stops (Codes × Option ℕ) (Body u) AfterBody s i p
body_stops_in_tile {u} {s} {i} v x p h = record {
  ahead = h.ahead;
  inside = h.inside;
  begins = (h.begins.0, (joined_codes h.begins.1 no_codes, None), h.begins.2, tiles v h.begins.3 nothing);
  over = λ s' j t e d a. no h.ahead s' j t e d a;
}
  where
    no : i ≤ p → (s' : List ℕ) (j : ℕ) (t : Codes × Option ℕ) → take (p + 1) s ≡ take (p + 1) s' → Body u s' i j t → AfterBody (byte s' j) → ⊥
    no l s' j t e nothing a = x (same_byte s s' (p + 1) i e (omega arith) ∙ a)
    no l s' j t e (one a b c d) f = omega arith
    no l s' j t e (range a b c d g k m) f = omega arith
    no l s' j t e (tiles {k = k} {n = n} a b c) f = h.over s' k n e b tt

-- a tile, and the rest stops
pub body_stops_after_tile : {u : ℕ} {s : List ℕ} {i k least : ℕ} {m : Codes} → u ≡ 2 → (byte s i ≡ 93 → ⊥) → Read Codes (OneUnit u) Anything s least i k m → (p : ℕ) → Stops (Codes × Option ℕ) (Body u) AfterBody s k p → Stops (Codes × Option ℕ) (Body u) AfterBody s i p
body_stops_after_tile {u} {s} {i} {k} {least} {m} v x r p h =
    let l = unit_on r.derives in
    let g = h.ahead in
    let s'' = h.begins.0 in
    let e'' = h.begins.2 in
    record {
      ahead = omega arith;
      inside = h.inside;
      begins = (s'', (joined_codes m h.begins.1.0, h.begins.1.1), e'', tiles v (unit_at s s'' p e'' (omega arith) r.derives) h.begins.3);
      over = λ s' j t e d a. no (unit_on r.derives) h.ahead s' j t e d a;
    }
  where
    no : i < k → k ≤ p → (s' : List ℕ) (j : ℕ) (t : Codes × Option ℕ) → take (p + 1) s ≡ take (p + 1) s' → Body u s' i j t → AfterBody (byte s' j) → ⊥
    no q l s' j t e nothing a = x (same_byte s s' (p + 1) i e (omega arith) ∙ a)
    no q l s' j t e (one a b c d) f = omega arith
    no q l s' j t e (range a b c d g w z) f = omega arith
    no q l s' j t e (tiles {k = k'} {m = m'} {r = r'} a b c) f =
        let o = unit_one s s' (p + 1) e r.derives refl (omega arith) b in
        h.over s' j (m', r') e (subst (λ z. Body u s' z j (m', r')) (sym o.0) c) f

-- `[`, and the body stops
pub class_stops_in_body : {u : ℕ} {s : List ℕ} {i : ℕ} → byte s i ≡ 91 → (byte s (i + 1) ≡ 94 → ⊥) → (p : ℕ) → Stops (Codes × Option ℕ) (Body u) AfterBody s (i + 1) p → Stops Ast (Atom u) Anything s i p
class_stops_in_body {u} {s} {i} x y p h =
    let l = h.ahead in
    let s₁ = h.begins.0 in
    let e₁ = h.begins.2 in
    let s₂ = s₁ ++ 93 ∷ [] in
    let g = reaches s s₁ p e₁ h.inside in
    let e₂ : take (length s₁) s₁ ≡ take (length s₁) s₂ = push_same s₁ (length s₁) 93 (omega arith) in
    let b = body_at s₁ s₂ (length s₁) e₂ (omega arith) h.begins.3 in
    let a : byte s₂ i ≡ 91 = sym (same_byte s s₂ p i (e₁ ∙ push_same s₁ p 93 g) (omega arith)) ∙ x in
    let t : Ast = class i h.begins.1.0 h.begins.1.1 in
    let d : Atom u s₂ i (length s₁ + 1) t = members a b (byte_push s₁ 93) in
    record {
      ahead = omega arith;
      inside = h.inside;
      begins = (s₂, t, e₁ ∙ push_same s₁ p 93 g, subst (λ q. Atom u s₂ i q t) (sym (length_push s₁ 93)) d);
      over = λ s' j t e d a. no h.ahead s' j t e d;
    }
  where
    no : i + 1 ≤ p → (s' : List ℕ) (j : ℕ) (t : Ast) → take (p + 1) s ≡ take (p + 1) s' → Atom u s' i j t → ⊥
    no l s' j t e (one_unit a) = not_opening (unit_first a) (inl (sym (same_byte s s' (p + 1) i e (omega arith)) ∙ x))
    no l s' j t e (members {j = j'} {m = m} {r = r} a b c) = h.over s' j' (m, r) e b c
    no l s' j t e (others a b c d) = y (same_byte s s' (p + 1) (i + 1) e (omega arith) ∙ b)
    no l s' j t e (group a b c) = let w = same_byte s s' (p + 1) i e (omega arith) in omega arith

-- `[^`, and the body stops
pub class_stops_in_other_body : {u : ℕ} {s : List ℕ} {i : ℕ} → byte s i ≡ 91 → byte s (i + 1) ≡ 94 → (p : ℕ) → Stops (Codes × Option ℕ) (Body u) AfterBody s (i + 2) p → Stops Ast (Atom u) Anything s i p
class_stops_in_other_body {u} {s} {i} x y p h =
    let l = h.ahead in
    let s₁ = h.begins.0 in
    let e₁ = h.begins.2 in
    let s₂ = s₁ ++ 93 ∷ [] in
    let g = reaches s s₁ p e₁ h.inside in
    let e₂ : take (length s₁) s₁ ≡ take (length s₁) s₂ = push_same s₁ (length s₁) 93 (omega arith) in
    let b = body_at s₁ s₂ (length s₁) e₂ (omega arith) h.begins.3 in
    let e₃ : take p s ≡ take p s₂ = e₁ ∙ push_same s₁ p 93 g in
    let a : byte s₂ i ≡ 91 = sym (same_byte s s₂ p i e₃ (omega arith)) ∙ x in
    let c : byte s₂ (i + 1) ≡ 94 = sym (same_byte s s₂ p (i + 1) e₃ (omega arith)) ∙ y in
    let t : Ast = class i (other_codes (codes_of u) h.begins.1.0) h.begins.1.1 in
    let d : Atom u s₂ i (length s₁ + 1) t = others a c b (byte_push s₁ 93) in
    record {
      ahead = omega arith;
      inside = h.inside;
      begins = (s₂, t, e₃, subst (λ q. Atom u s₂ i q t) (sym (length_push s₁ 93)) d);
      over = λ s' j t e d a. no h.ahead s' j t e d;
    }
  where
    no : i + 2 ≤ p → (s' : List ℕ) (j : ℕ) (t : Ast) → take (p + 1) s ≡ take (p + 1) s' → Atom u s' i j t → ⊥
    no l s' j t e (one_unit a) = not_opening (unit_first a) (inl (sym (same_byte s s' (p + 1) i e (omega arith)) ∙ x))
    no l s' j t e (members a b c) =
        let w = same_byte s s' (p + 1) (i + 1) e (omega arith) in not_hat (body_first b c) (sym w ∙ y)
    no l s' j t e (others {j = j'} {m = m} {r = r} a b c d) = h.over s' j' (m, r) e c d
    no l s' j t e (group a b c) = let w = same_byte s s' (p + 1) i e (omega arith) in omega arith
