-- Where a pattern stops: inside one of its branches, there inside one of the pieces, and there inside the atom or the quantifier.
use Rattle.std.proofs.Common.{◌≡◌, ℕ, ◌+◌, ◌<◌, ◌≤◌, ◌⊎◌, List, [], ◌∷◌, ◌++◌, length, take, sym, refl, ap, ◌∙◌, subst, inl, inr, arith}
use Rattle.std.proofs.lemmas.List.{length-take-le, length_push, get_or_past}
use Rattle.grammar.specs.Codes.{Codes}
use Rattle.grammar.specs.Ast.{Ast, empty, leaf, cat, alt, repeat, Repetition}
use Rattle.grammar.specs.Grammar.{byte, OneUnit, Quantifier, Pattern, Branch, Piece, Atom, last, more, none, then, once, often, one_unit, members, others, group}
use Rattle.grammar.specs.Reading.{QuantifierByte, AfterPattern, AfterBranch, AfterPiece, Anything, Read, Stops}
use Rattle.grammar.proofs.Texts.{same_byte, cut, reaches, push_same, byte_push}
use Rattle.grammar.proofs.Forward.{quantifier_on, pattern_on, branch_on, piece_on, atom_on}
use Rattle.grammar.proofs.Local.{pattern_at, branch_at, piece_at, atom_at}
use Rattle.grammar.proofs.Firsts.{unit_first, quantifier_first, branch_first, not_opening}
use Rattle.grammar.proofs.Unique.{quantifier_one, pattern_one, branch_one, piece_one, atom_one}

-- the atom of a piece stops
pub piece_stops_in_atom : {u : ℕ} {s : List ℕ} {i : ℕ} (p : ℕ) → Stops Ast (Atom u) Anything s i p → Stops Ast (Piece u) AfterPiece s i p
piece_stops_in_atom {u} {s} {i} p h = record {
  ahead = h.ahead;
  inside = h.inside;
  begins = (h.begins.0, h.begins.1, h.begins.2, once h.begins.3);
  over = λ s' j t e d a. no s' j t e d;
}
  where
    no : (s' : List ℕ) (j : ℕ) (t : Ast) → take (p + 1) s ≡ take (p + 1) s' → Piece u s' i j t → ⊥
    no s' j t e (once b) = h.over s' j t e b tt
    no s' j t e (often {k = k} {t = t'} b x) = h.over s' k t' e b tt

-- an atom, and its quantifier stops
pub piece_stops_in_quantifier : {u : ℕ} {s : List ℕ} {i k least : ℕ} {v : Ast} → Read Ast (Atom u) Anything s least i k v → QuantifierByte (byte s k) → (p : ℕ) → Stops Repetition Quantifier Anything s k p → Stops Ast (Piece u) AfterPiece s i p
piece_stops_in_quantifier {u} {s} {i} {k} {least} {v} r x p h =
    let o = atom_on r.derives in
    let l = h.ahead in
    let s'' = h.begins.0 in
    let e'' = h.begins.2 in
    record {
      ahead = omega arith;
      inside = h.inside;
      begins = (s'', repeat h.begins.1 v, e'', often (atom_at s s'' p e'' l r.derives) h.begins.3);
      over = λ s' j t e d a. no h.ahead s' j t e d a;
    }
  where
    no : k ≤ p → (s' : List ℕ) (j : ℕ) (t : Ast) → take (p + 1) s ≡ take (p + 1) s' → Piece u s' i j t → AfterPiece (byte s' j) → ⊥
    no l s' j t e (once b) a =
        let o = atom_one s s' (p + 1) e r.derives refl (omega arith) b in
        a (subst QuantifierByte (same_byte s s' (p + 1) k e (omega arith) ∙ ap (byte s') o.0) x)
    no l s' j t e (often {q = q} b m) a =
        let o = atom_one s s' (p + 1) e r.derives refl (omega arith) b in
        h.over s' j q e (subst (λ z. Quantifier s' z j q) (sym o.0) m) tt

-- an atom and a quantifier, and a second one after it
pub piece_stops_at_second : {u : ℕ} {s : List ℕ} {i k q least least' : ℕ} {v : Ast} {f : Repetition} → Read Ast (Atom u) Anything s least i k v → Read Repetition Quantifier Anything s least' k q f → QuantifierByte (byte s q) → Stops Ast (Piece u) AfterPiece s i q
piece_stops_at_second {u} {s} {i} {k} {q} {least} {least'} {v} {f} r m x =
    let o = atom_on r.derives in
    let o' = quantifier_on m.derives in
    let l = m.inside in
    let e = cut s q in
    let d : Piece u (take q s) i q (repeat f v) = piece_at s (take q s) q e (omega arith) (often r.derives m.derives) in
    record {
      ahead = omega arith;
      inside = l;
      begins = (take q s, repeat f v, e, subst (λ w. Piece u (take q s) i w (repeat f v)) (sym (length-take-le q s l)) d);
      over = λ s' j t e d a. no (quantifier_on m.derives) s' j t e d a;
    }
  where
    no : k < q → (s' : List ℕ) (j : ℕ) (t : Ast) → take (q + 1) s ≡ take (q + 1) s' → Piece u s' i j t → AfterPiece (byte s' j) → ⊥
    no l s' j t e (once b) a =
        let o = atom_one s s' (q + 1) e r.derives refl (omega arith) b in
        a (subst QuantifierByte (same_byte s s' (q + 1) k e (omega arith) ∙ ap (byte s') o.0) (quantifier_first m.derives))
    no l s' j t e (often b n) a =
        let o = atom_one s s' (q + 1) e r.derives refl (omega arith) b in
        let g = quantifier_one s s' (q + 1) e m.derives o.0 (omega arith) n in
        a (subst QuantifierByte (same_byte s s' (q + 1) q e (omega arith) ∙ ap (byte s') g.0) x)

-- the unit stops
pub atom_stops_in_unit : {u : ℕ} {s : List ℕ} {i : ℕ} → ((byte s i ≡ 91) ⊎ (byte s i ≡ 40) → ⊥) → (p : ℕ) → Stops Codes (OneUnit u) Anything s i p → Stops Ast (Atom u) Anything s i p
atom_stops_in_unit {u} {s} {i} x p h = record {
  ahead = h.ahead;
  inside = h.inside;
  begins = (h.begins.0, leaf i h.begins.1, h.begins.2, one_unit h.begins.3);
  over = λ s' j t e d a. no h.ahead s' j t e d;
}
  where
    no : i ≤ p → (s' : List ℕ) (j : ℕ) (t : Ast) → take (p + 1) s ≡ take (p + 1) s' → Atom u s' i j t → ⊥
    no l s' j t e (one_unit {m = m} a) = h.over s' j m e a tt
    no l s' j t e (members a b c) = x (inl (same_byte s s' (p + 1) i e (omega arith) ∙ a))
    no l s' j t e (others a b c d) = x (inl (same_byte s s' (p + 1) i e (omega arith) ∙ a))
    no l s' j t e (group a b c) = x (inr (same_byte s s' (p + 1) i e (omega arith) ∙ a))

-- a pattern between brackets is an atom
closed : (u : ℕ) (s : List ℕ) {i : ℕ} {t : Ast} (s' : List ℕ) → byte s i ≡ 40 → (p : ℕ) → take p s ≡ take p s' → i < p → Pattern u s' (i + 1) (length s') t → Atom u (s' ++ 41 ∷ []) i (length (s' ++ 41 ∷ [])) t
closed u s {i} {t} s' x p e l d =
    let n = length s' in
    let s'' = s' ++ 41 ∷ [] in
    let e'' : take n s' ≡ take n s'' = push_same s' n 41 (omega arith) in
    let o = pattern_on d in
    let y = same_byte s s' p i e l in
    let z = same_byte s' s'' n i e'' (omega arith) in
    let a : Atom u s'' i (n + 1) t = group (sym z ∙ sym y ∙ x) (pattern_at s' s'' n e'' (omega arith) d) (byte_push s' 41) in
    subst (λ v. Atom u s'' i v t) (sym (length_push s' 41)) a

-- `(`, and the pattern stops
pub atom_stops_in_group : {u : ℕ} {s : List ℕ} {i : ℕ} → byte s i ≡ 40 → (p : ℕ) → Stops Ast (Pattern u) AfterPattern s (i + 1) p → Stops Ast (Atom u) Anything s i p
atom_stops_in_group {u} {s} {i} x p h =
    let i<p = h.ahead in
    let s'' = h.begins.0 in
    let e'' = h.begins.2 in
    let r = reaches s s'' p e'' h.inside in
    record {
      ahead = omega arith;
      inside = h.inside;
      begins = (s'' ++ 41 ∷ [], h.begins.1, e'' ∙ push_same s'' p 41 r, closed u s s'' x p e'' (omega arith) h.begins.3);
      over = λ s' j t e d a. no h.ahead s' j t e d;
    }
  where
    no : i + 1 ≤ p → (s' : List ℕ) (j : ℕ) (t : Ast) → take (p + 1) s ≡ take (p + 1) s' → Atom u s' i j t → ⊥
    no l s' j t e (one_unit a) = not_opening (unit_first a) (inr (sym (same_byte s s' (p + 1) i e (omega arith)) ∙ x))
    no l s' j t e (members a b c) = let w = same_byte s s' (p + 1) i e (omega arith) in omega arith
    no l s' j t e (others a b c d) = let w = same_byte s s' (p + 1) i e (omega arith) in omega arith
    no l s' j t e (group {j = k} a b c) = h.over s' k t e b (inr c)

-- `(` and a pattern, and then the end of the text
pub group_stops_at_end : {u : ℕ} {s : List ℕ} {i k least : ℕ} {v : Ast} → byte s i ≡ 40 → Read Ast (Pattern u) AfterPattern s least (i + 1) k v → k ≡ length s → Stops Ast (Atom u) Anything s i (length s)
group_stops_at_end {u} {s} {i} {k} {least} {v} x r n =
    let o = pattern_on r.derives in
    let d : Pattern u s (i + 1) (length s) v = subst (λ m. Pattern u s (i + 1) m v) n r.derives in
    record {
      ahead = omega arith;
      inside = omega arith;
      begins = (s ++ 41 ∷ [], v, push_same s (length s) 41 (omega arith), closed u s s x (length s) refl (omega arith) d);
      over = λ s' j t e d' a. no (pattern_on r.derives) s' j t e d';
    }
  where
    no : i + 1 ≤ k → (s' : List ℕ) (j : ℕ) (t : Ast) → take (length s + 1) s ≡ take (length s + 1) s' → Atom u s' i j t → ⊥
    no l s' j t e (one_unit a) = not_opening (unit_first a) (inr (sym (same_byte s s' (length s + 1) i e (omega arith)) ∙ x))
    no l s' j t e (members a b c) = let w = same_byte s s' (length s + 1) i e (omega arith) in omega arith
    no l s' j t e (others a b c d) = let w = same_byte s s' (length s + 1) i e (omega arith) in omega arith
    no l s' j t e (group y q z) =
        let o = pattern_one s s' (length s + 1) e r.derives refl (omega arith) r.after q (inr z) in
        let w = same_byte s s' (length s + 1) k e (omega arith) in
        let v = get_or_past s k 256 (omega arith) in
        let y' = ap (byte s') o.0 in
        omega arith

-- the first branch stops
pub pattern_stops_in_branch : {u : ℕ} {s : List ℕ} {i : ℕ} (p : ℕ) → Stops Ast (Branch u) AfterBranch s i p → Stops Ast (Pattern u) AfterPattern s i p
pattern_stops_in_branch {u} {s} {i} p h = record {
  ahead = h.ahead;
  inside = h.inside;
  begins = (h.begins.0, h.begins.1, h.begins.2, last h.begins.3);
  over = λ s' j t e d a. no_pattern s' j t e d a;
}
  where
    no_pattern : (s' : List ℕ) (j : ℕ) (t : Ast) → take (p + 1) s ≡ take (p + 1) s' → Pattern u s' i j t → AfterPattern (byte s' j) → ⊥
    no_pattern s' j t e (last b) a = h.over s' j t e b (inl a)
    no_pattern s' j t e (more {k = k} {t = t'} b x q) a = h.over s' k t' e b (inr x)

-- a branch and `|`, and the rest stops
pub pattern_stops_after_bar : {u : ℕ} {s : List ℕ} {i k least : ℕ} {v : Ast} → Read Ast (Branch u) AfterBranch s least i k v → byte s k ≡ 124 → (p : ℕ) → Stops Ast (Pattern u) AfterPattern s (k + 1) p → Stops Ast (Pattern u) AfterPattern s i p
pattern_stops_after_bar {u} {s} {i} {k} {least} {v} r x p h =
    let i≤k = branch_on r.derives in
    let k<p = h.ahead in
    let s'' = h.begins.0 in
    let e'' = h.begins.2 in
    let x'' = same_byte s s'' p k e'' (omega arith) in
    record {
      ahead = omega arith;
      inside = h.inside;
      begins = (s'', alt v h.begins.1, e'', more (branch_at s s'' p e'' (omega arith) r.derives) (sym x'' ∙ x) h.begins.3);
      over = λ s' j t e d a. no_pattern k<p s' j t e d a;
    }
  where
    no_pattern : k + 1 ≤ p → (s' : List ℕ) (j : ℕ) (t : Ast) → take (p + 1) s ≡ take (p + 1) s' → Pattern u s' i j t → AfterPattern (byte s' j) → ⊥
    no_pattern l s' j t e (last b) a =
        let o = branch_one s s' (p + 1) e r.derives refl (omega arith) r.after b (inl a) in
        let z = same_byte s s' (p + 1) k e (omega arith) in
        let w = ap (byte s') o.0 in
        grind arith
    no_pattern l s' j t e (more {v = u'} b y q) a =
        let o = branch_one s s' (p + 1) e r.derives refl (omega arith) r.after b (inr y) in
        h.over s' j u' e (subst (λ m. Pattern u s' (m + 1) j u') (sym o.0) q) a

-- the first piece stops
pub branch_stops_in_piece : {u : ℕ} {s : List ℕ} {i : ℕ} → (AfterBranch (byte s i) → ⊥) → (p : ℕ) → Stops Ast (Piece u) AfterPiece s i p → Stops Ast (Branch u) AfterBranch s i p
branch_stops_in_piece {u} {s} {i} x p h = record {
  ahead = h.ahead;
  inside = h.inside;
  begins = (h.begins.0, cat h.begins.1 empty, h.begins.2, then h.begins.3 none);
  over = λ s' j t e d a. no_branch s' j t e d a;
}
  where
    no_branch : (s' : List ℕ) (j : ℕ) (t : Ast) → take (p + 1) s ≡ take (p + 1) s' → Branch u s' i j t → AfterBranch (byte s' j) → ⊥
    no_branch s' j t e none a = let l = h.ahead in let z = same_byte s s' (p + 1) i e (omega arith) in x (rw z a)
    no_branch s' j t e (then {k = k} {t = t'} b c) a = h.over s' k t' e b (branch_first c a)

-- a piece, and the rest stops
pub branch_stops_after_piece : {u : ℕ} {s : List ℕ} {i k least : ℕ} {v : Ast} → (AfterBranch (byte s i) → ⊥) → Read Ast (Piece u) AfterPiece s least i k v → (p : ℕ) → Stops Ast (Branch u) AfterBranch s k p → Stops Ast (Branch u) AfterBranch s i p
branch_stops_after_piece {u} {s} {i} {k} {least} {v} x r p h =
    let i<k = piece_on r.derives in
    let k≤p = h.ahead in
    let s'' = h.begins.0 in
    let e'' = h.begins.2 in
    record {
      ahead = omega arith;
      inside = h.inside;
      begins = (s'', cat v h.begins.1, e'', then (piece_at s s'' p e'' k≤p r.derives) h.begins.3);
      over = λ s' j t e d a. no_branch i<k k≤p s' j t e d a;
    }
  where
    no_branch : i < k → k ≤ p → (s' : List ℕ) (j : ℕ) (t : Ast) → take (p + 1) s ≡ take (p + 1) s' → Branch u s' i j t → AfterBranch (byte s' j) → ⊥
    no_branch l m s' j t e none a = let z = same_byte s s' (p + 1) i e (omega arith) in x (rw z a)
    no_branch l m s' j t e (then {v = u'} b c) a =
        let o = piece_one s s' (p + 1) e r.derives refl (omega arith) r.after b (branch_first c a) in
        h.over s' j u' e (subst (λ q. Branch u s' q j u') (sym o.0) c) a
