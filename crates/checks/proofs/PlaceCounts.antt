-- Places of one part after those of another.
use Rattle.std.proofs.Common.{◌≡◌, ℕ, ◌-◌, ◌≤◌, ◌⊎◌, List, ◌++◌, length, get_or, IsErrAnd, Ok, Err, Result, Box, sym, ap, ◌∙◌, inl, inr, arith, length-append}
use Rattle.std.proofs.lemmas.List.{get_or_append_left, get_or-append_right}
use Rattle.std.specs.declared.alloc.Global.{Global}
use Rattle.refusals.specs.declared.Refusal.{Refusal}
use Rattle.refusals.specs.declared.Refusal.TheVariants.{Places}
use Rattle.grammar.specs.Nodes.{ast_of}
use Rattle.grammar.specs.declared.tree.Node.{Node, Cat, Alt}
use Rattle.checks.specs.Faults.{UpTo64, places_of}

-- the 65th stands in the first part
pub in_first : (seen : ℕ) (p : Refusal) (a b : List ℕ) (r : Result ℕ Refusal) → seen ≤ 64 → UpTo64 seen a (Err p) → IsErrAnd r (λ y. y ≡ p) → UpTo64 seen (a ++ b) r
in_first seen p a b (Ok k) l h e = absurd e
in_first seen p a b (Err q) l h e =
    let n = length-append a b in
    (omega (arith, h.0), e ∙ h.1 ∙ ap Places (sym (get_or_append_left a b 0 (64 - seen) (omega (arith, h.0)))))

-- the first part is counted, and what the second answers is the answer
pub in_rest : (seen k : ℕ) (a b : List ℕ) (r : Result ℕ Refusal) → UpTo64 seen a (Ok k) → UpTo64 k b r → UpTo64 seen (a ++ b) r
in_rest seen k a b (Ok m) h g = let n = length-append a b in (omega arith, g.1)
in_rest seen k a b (Err p) h g =
    let n = length-append a b in
    let e : 64 - seen - length a ≡ 64 - k = omega (arith, h.0) in
    let x : get_or (a ++ b) (64 - seen) 0 ≡ get_or b (64 - k) 0 = get_or-append_right a b (length a) (64 - seen) 0 (omega arith) (omega (arith, h.0, h.1)) ∙ ap (λ v. get_or b v 0) e in
    (omega arith, g.1 ∙ ap Places (sym x))

pub parts : {n : Node} {a b : Box Node Global} → (n ≡ Cat a b) ⊎ (n ≡ Alt a b) → places_of (ast_of n) ≡ places_of (ast_of a.value) ++ places_of (ast_of b.value)
parts (inl e) = ap (λ v. places_of (ast_of v)) e
parts (inr e) = ap (λ v. places_of (ast_of v)) e
