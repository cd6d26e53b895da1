-- The whole text: what the readers say of a pattern from its first byte on, in terms of `Begins` and `IsPattern`.
use Rattle.std.proofs.Common.{◌≡◌, ℕ, ◌+◌, ◌<◌, List, [], ◌++◌, length, take, drop, sym, refl, ap, ◌∙◌, subst, inl, arith, take-append-drop}
use Rattle.std.proofs.lemmas.List.{take_at, take_all, length-take-le, length-append, append-nil}
use Rattle.grammar.specs.Ast.{Ast}
use Rattle.grammar.specs.Grammar.{byte, Pattern, IsPattern, Begins}
use Rattle.grammar.specs.Reading.{AfterPattern, Read, Stops, ByteAt, EndAt}
use Rattle.grammar.proofs.Texts.{past, cut}
use Rattle.grammar.proofs.Local.{pattern_at}
use Rattle.grammar.proofs.Unique.{pattern_one}

-- the bytes before the stop begin a pattern
pub begun : {u : ℕ} {s : List ℕ} {p : ℕ} → Stops Ast (Pattern u) AfterPattern s 0 p → Begins u (take p s)
begun {u} {s} {p} h =
    let s'' = h.begins.0 in
    let t = h.begins.1 in
    let e : take p s ++ drop p s'' ≡ s'' = ap (λ v. v ++ drop p s'') h.begins.2 ∙ take-append-drop p s'' in
    (drop p s'', t, subst (λ v. IsPattern u v t) (sym e) h.begins.3)

-- and with that byte they begin none
pub ended : {u : ℕ} {s : List ℕ} {p : ℕ} → Stops Ast (Pattern u) AfterPattern s 0 p → p < length s → Begins u (take (p + 1) s) → ⊥
ended {u} {s} {p} h l b =
    let s' = take (p + 1) s ++ b.0 in
    let n : length (take (p + 1) s) ≡ p + 1 = length-take-le (p + 1) s (omega arith) in
    h.over s' (length s') b.1 (sym (take_at (take (p + 1) s) b.0 (p + 1) n)) b.2 (inl (past s' (length s') (omega arith)))

-- a text at whose end the reader stops is no pattern
pub open_ended : {u : ℕ} {s : List ℕ} → Stops Ast (Pattern u) AfterPattern s 0 (length s) → (t : Ast) → IsPattern u s t → ⊥
open_ended {u} {s} h t d = h.over s (length s) t refl d (inl (past s (length s) (omega arith)))

pub byte_at : {u : ℕ} {s : List ℕ} {p : ℕ} → p < length s → Stops Ast (Pattern u) AfterPattern s 0 p → ByteAt u s p
byte_at l h = (l, begun h, ended h l)

pub end_at : {u : ℕ} {s : List ℕ} {p : ℕ} → p ≡ length s → Stops Ast (Pattern u) AfterPattern s 0 p → EndAt u s p
end_at {u} {s} {p} e h =
    let h' : Stops Ast (Pattern u) AfterPattern s 0 (length s) = subst (λ q. Stops Ast (Pattern u) AfterPattern s 0 q) e h in
    (e, subst (Begins u) (take_all (length s) s (omega arith)) (begun h'), open_ended h')

-- a whole pattern, and a byte after it: a bracket that closes what none has opened
pub too_many : {u : ℕ} {s : List ℕ} {q least : ℕ} {t : Ast} → Read Ast (Pattern u) AfterPattern s least 0 q t → q < length s → ByteAt u s q
too_many {u} {s} {q} {least} {t} r l =
    let e = cut s q in
    let n : length (take q s) ≡ q = length-take-le q s (omega arith) in
    let d : Pattern u (take q s) 0 q t = pattern_at s (take q s) q e (omega arith) r.derives in
    let d' : IsPattern u (take q s) t = subst (λ m. Pattern u (take q s) 0 m t) (sym n) d in
    (l, ([], t, subst (λ v. IsPattern u v t) (sym (append-nil (take q s))) d'), no_more)
  where
    no_more : Begins u (take (q + 1) s) → ⊥
    no_more b =
        let s' = take (q + 1) s ++ b.0 in
        let n : length (take (q + 1) s) ≡ q + 1 = length-take-le (q + 1) s (omega arith) in
        let e : take (q + 1) s ≡ take (q + 1) s' = sym (take_at (take (q + 1) s) b.0 (q + 1) n) in
        let o = pattern_one s s' (q + 1) e r.derives refl (omega arith) r.after b.2 (inl (past s' (length s') (omega arith))) in
        let m = length-append (take (q + 1) s) b.0 in
        omega (arith, o.0)

-- a text has at most one tree
pub one_tree : (u : ℕ) (s : List ℕ) (t t' : Ast) → IsPattern u s t → IsPattern u s t' → t ≡ t'
one_tree u s t t' d d' =
    let e : byte s (length s) ≡ 256 = past s (length s) (omega arith) in
    (pattern_one s s (length s + 1) refl d refl (omega arith) (inl e) d' (inl e)).1
