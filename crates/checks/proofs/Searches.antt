-- The leftmost place of a fault, from what a node shows and what its parts have.
use Rattle.std.proofs.Common.{◌≡◌, ℕ, ◌≤◌, ◌⊎◌, Some, None, Option, Box, sym, subst, inl, inr, arith, refl}
use Rattle.std.proofs.lemmas.Bool.{cases_lt, lt-leb, le-leb}
use Rattle.std.specs.declared.alloc.Global.{Global}
use Rattle.grammar.specs.Nodes.{ast_of}
use Rattle.grammar.specs.declared.tree.Node.{Node, Cat, Alt, Repeat}
use Rattle.grammar.specs.declared.tree.Node.TheVariants.{Empty, Leaf, Class, Cat', Alt', Repeat'}
use Rattle.grammar.specs.declared.tree.Times.{Times}
use Rattle.grammar.specs.Ast.{Ast, empty, leaf, class, cat, alt, repeat, star, plus, opt, counted as counted_from}
use Rattle.checks.specs.Faults.{Finds, least, CountedAt, NestedAt}
use Rattle.checks.specs.Searches.{Fault, backward, no_code, bounds, counted, nested, FaultAt, InParts, Shows}

-- the leftmost of two kinds of places
pub least_or : (P Q : ℕ → Type 0) (a b : Option ℕ) → Finds P a → Finds Q b → Finds (λ p. P p ⊎ Q p) (least a b)
least_or P Q None None h k = λ p. elim [ inl x ↦ h p x | inr y ↦ k p y ]
least_or P Q None (Some q) h k = (inr k.0, λ p. elim [ inl x ↦ absurd (h p x) | inr y ↦ k.1 p y ])
least_or P Q (Some p) None h k = (inl h.0, λ q. elim [ inl x ↦ h.1 q x | inr y ↦ absurd (k q y) ])
least_or P Q (Some p) (Some q) h k = elim (cases_lt q p) [
  | inl l ↦ rw (lt-leb p q l) (inr k.0, λ x. elim [ inl y ↦ (let z = h.1 x y in omega arith) | inr y ↦ k.1 x y ])
  | inr l ↦ rw (le-leb p q l) (inl h.0, λ x. elim [ inl y ↦ h.1 x y | inr y ↦ (let z = k.1 x y in omega arith) ])
]

-- a nested counted repeat is a counted one
counted_of : (t : Ast) (p : ℕ) → NestedAt t p → CountedAt t p
counted_of empty p h = elim h [ ]
counted_of (leaf at codes) p h = elim h [ ]
counted_of (class at codes back) p h = elim h [ ]
counted_of (cat a b) p (inl h) = inl (counted_of a p h)
counted_of (cat a b) p (inr h) = inr (counted_of b p h)
counted_of (alt a b) p (inl h) = inl (counted_of a p h)
counted_of (alt a b) p (inr h) = inr (counted_of b p h)
counted_of (repeat star a) p h = counted_of a p h
counted_of (repeat plus a) p h = counted_of a p h
counted_of (repeat opt a) p h = counted_of a p h
counted_of (repeat (counted_from at low high) a) p h = inl h

-- what stands in a part stands in the whole
pub in_whole : (f : Fault) (t : Ast) (p : ℕ) → InParts f t p → FaultAt f t p
in_whole f empty p h = elim h [ ]
in_whole f (leaf at codes) p h = elim h [ ]
in_whole f (class at codes back) p h = elim h [ ]
in_whole backward (cat a b) p h = h
in_whole no_code (cat a b) p h = h
in_whole bounds (cat a b) p h = h
in_whole counted (cat a b) p h = h
in_whole nested (cat a b) p h = h
in_whole backward (alt a b) p h = h
in_whole no_code (alt a b) p h = h
in_whole bounds (alt a b) p h = h
in_whole counted (alt a b) p h = h
in_whole nested (alt a b) p h = h
in_whole backward (repeat q a) p h = h
in_whole no_code (repeat q a) p h = h
in_whole bounds (repeat star a) p h = h
in_whole bounds (repeat plus a) p h = h
in_whole bounds (repeat opt a) p h = h
in_whole bounds (repeat (counted_from at low high) a) p h = inl h
in_whole counted (repeat star a) p h = h
in_whole counted (repeat plus a) p h = h
in_whole counted (repeat opt a) p h = h
in_whole counted (repeat (counted_from at low high) a) p h = inl h
in_whole nested (repeat star a) p h = h
in_whole nested (repeat plus a) p h = h
in_whole nested (repeat opt a) p h = h
in_whole nested (repeat (counted_from at low high) a) p h = counted_of a p h

-- where a node has no parts
pub alone : (f : Fault) (t : Ast) (r : Option ℕ) → ((p : ℕ) → InParts f t p → ⊥) → Shows f t r → Finds (FaultAt f t) r
alone f t None none h = λ p x. none p (h p x)
alone f t (Some q) none h = (h.0, λ p x. elim (h.1 p x) [ inl l ↦ l | inr y ↦ absurd (none p y) ])

-- where it has parts
pub whole : (f : Fault) (t : Ast) (here inner : Option ℕ) → Shows f t here → Finds (InParts f t) inner → Finds (FaultAt f t) (least here inner)
whole f t None None h k = λ p x. k p (h p x)
whole f t None (Some q) h k = (in_whole f t q k.0, λ p x. k.1 p (h p x))
whole f t (Some q) None h k = (h.0, λ p x. elim (h.1 p x) [ inl l ↦ l | inr y ↦ absurd (k p y) ])
whole f t (Some q) (Some r) h k = elim (cases_lt r q) [
  | inl l ↦ rw (lt-leb q r l) (in_whole f t r k.0, λ p x. elim (h.1 p x) [ inl y ↦ (let z : r ≤ p = omega arith in z) | inr y ↦ k.1 p y ])
  | inr l ↦ rw (le-leb q r l) (h.0, λ p x. elim (h.1 p x) [ inl y ↦ y | inr y ↦ (let z = k.1 p y in omega arith) ])
]

abbrev holding : Box (Unit {0}) Global → Node → Box Node Global
holding b n = record { ptr = b.ptr; alloc = b.alloc; value = n }

-- a node without parts
pub no_parts :
    (n : Node) → ((a b : Box Node Global) → n ≡ Cat a b → ⊥) → ((a b : Box Node Global) → n ≡ Alt a b → ⊥) → ((a : Box Node Global) (t : Times) → n ≡ Repeat a t → ⊥)
    → (f : Fault) (p : ℕ) → InParts f (ast_of n) p → ⊥
no_parts Empty c a r f p h = h
no_parts (Leaf at codes) c a r f p h = h
no_parts (Class at codes back) c a r f p h = h
no_parts (Cat' p l q m) c a r f x h = c (holding p l) (holding q m) refl
no_parts (Alt' p l q m) c a r f x h = a (holding p l) (holding q m) refl
no_parts (Repeat' p l t) c a r f x h = r (holding p l) t refl

-- two parts
pub pair_parts :
    {n : Node} {a b : Box Node Global} → (n ≡ Cat a b) ⊎ (n ≡ Alt a b) → (f : Fault) (r : Option ℕ)
    → Finds (λ p. FaultAt f (ast_of a.value) p ⊎ FaultAt f (ast_of b.value) p) r → Finds (InParts f (ast_of n)) r
pair_parts (inl e) f r h = subst (λ v. Finds (InParts f (ast_of v)) r) (sym e) h
pair_parts (inr e) f r h = subst (λ v. Finds (InParts f (ast_of v)) r) (sym e) h
