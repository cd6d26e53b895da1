-- A text whose tree passes one test that computes is accepted.
use Rattle.std.proofs.Common.{◌≡◌, ℕ, zero, suc, Bool, true, false, ◌&&◌, ◌||◌, leb, ◌⊎◌, List, length, Some, None, Option, subst, inl, inr, arith}
use mathlib.Core.Bool.{false≢true}
use Rattle.std.proofs.lemmas.Bool.{and_parts, or_cases, both_ways, leb-true}
use Rattle.grammar.specs.Ast.{Ast, empty, leaf, class, cat, alt, repeat, star, plus, opt, counted}
use Rattle.grammar.specs.Codes.{Codes}
use Rattle.grammar.specs.Grammar.{IsPattern}
use Rattle.alphabets.specs.Alphabets.{unit_of}
use Rattle.alphabets.specs.declared.Alphabet.{Alphabet}
use Rattle.grammar.proofs.Whole.{one_tree}
use Rattle.checks.specs.Faults.{BackwardAt, EmptyAt, BoundsAt, CountedAt, NestedAt, places_of, Nowhere}
use Rattle.syntax.specs.Refuses.{Accepted}
use Rattle.checks.specs.Widths.{widths_in}
use Rattle.syntax.proofs.Refused.{accepted}

-- ---- the tests

-- the set holds a code below n
abbrev someb : Codes → ℕ → Bool
someb m zero = false
someb m (suc n) = m n || someb m n

abbrev pub noneb : Option ℕ → Bool
noneb None = true
noneb (Some p) = false

-- no counted repeat
abbrev flatb : Ast → Bool
flatb empty = true
flatb (leaf i m) = true
flatb (class i m r) = true
flatb (cat a b) = flatb a && flatb b
flatb (alt a b) = flatb a && flatb b
flatb (repeat star a) = flatb a
flatb (repeat plus a) = flatb a
flatb (repeat opt a) = flatb a
flatb (repeat (counted i low high) a) = false

-- no range runs backwards, every class spells a code, and every counted repeat has right bounds and none inside
abbrev soundb : Ast → Bool
soundb empty = true
soundb (leaf i m) = true
soundb (class i m r) = noneb r && someb m 64
soundb (cat a b) = soundb a && soundb b
soundb (alt a b) = soundb a && soundb b
soundb (repeat star a) = soundb a
soundb (repeat plus a) = soundb a
soundb (repeat opt a) = soundb a
soundb (repeat (counted i low high) a) = (leb 1 high && (leb high 1000 && leb low high)) && (flatb a && soundb a)

abbrev pub acceptb : List ℕ → Ast → Bool
acceptb s t = leb (length s) 512 && (soundb t && (leb (length (places_of t)) 64 && leb (widths_in t) 4095))

-- ---- what they show

neither : {P Q : ℕ → Type 0} → Nowhere P → Nowhere Q → Nowhere (λ p. P p ⊎ Q p)
neither f g p (inl h) = f p h
neither f g p (inr h) = g p h

some_code : (m : Codes) (n : ℕ) → someb m n ≡ true → ((k : ℕ) → m k ≡ false) → ⊥
some_code m zero h f = false≢true h
some_code m (suc n) h f = elim (or_cases (m n) (someb m n) h) [ inl e ↦ both_ways (m n) (f n) e | inr e ↦ some_code m n e f ]

pub no_range : (r : Option ℕ) (p : ℕ) → noneb r ≡ true → r ≡ Some p → ⊥
no_range r p h e = false≢true (subst (λ x. noneb x ≡ true) e h)

flat : (t : Ast) → flatb t ≡ true → Nowhere (CountedAt t)
flat empty h = λ p x. x
flat (leaf i m) h = λ p x. x
flat (class i m r) h = λ p x. x
flat (cat a b) h = let (k, l) = and_parts (flatb a) (flatb b) h in neither (flat a k) (flat b l)
flat (alt a b) h = let (k, l) = and_parts (flatb a) (flatb b) h in neither (flat a k) (flat b l)
flat (repeat star a) h = flat a h
flat (repeat plus a) h = flat a h
flat (repeat opt a) h = flat a h
flat (repeat (counted i low high) a) h = absurd (false≢true h)

abbrev Sound : Ast → Type 0
Sound t = Nowhere (BackwardAt t) × Nowhere (EmptyAt t) × Nowhere (BoundsAt t) × Nowhere (NestedAt t)

sound : (t : Ast) → soundb t ≡ true → Sound t
sound empty h = (λ p x. x, λ p x. x, λ p x. x, λ p x. x)
sound (leaf i m) h = (λ p x. x, λ p x. x, λ p x. x, λ p x. x)
sound (class i m r) h =
    let (k, l) = and_parts (noneb r) (someb m 64) h in
    (λ p x. no_range r p k x, λ p x. some_code m 64 l x.1, λ p x. x, λ p x. x)
sound (cat a b) h =
    let (k, l) = and_parts (soundb a) (soundb b) h in
    let x = sound a k in
    let y = sound b l in
    (neither x.0 y.0, neither x.1 y.1, neither x.2 y.2, neither x.3 y.3)
sound (alt a b) h =
    let (k, l) = and_parts (soundb a) (soundb b) h in
    let x = sound a k in
    let y = sound b l in
    (neither x.0 y.0, neither x.1 y.1, neither x.2 y.2, neither x.3 y.3)
sound (repeat star a) h = sound a h
sound (repeat plus a) h = sound a h
sound (repeat opt a) h = sound a h
sound (repeat (counted i low high) a) h =
    let (k, l) = and_parts (leb 1 high && (leb high 1000 && leb low high)) (flatb a && soundb a) h in
    let (k₁, m) = and_parts (leb 1 high) (leb high 1000 && leb low high) k in
    let (k₂, k₃) = and_parts (leb high 1000) (leb low high) m in
    let (f, n) = and_parts (flatb a) (soundb a) l in
    let b₁ = leb-true 1 high k₁ in
    let b₂ = leb-true high 1000 k₂ in
    let b₃ = leb-true low high k₃ in
    let x = sound a n in
    (x.0, x.1, neither x.2 (λ p y. elim y.1 [ inl e ↦ omega arith | inr (inl e) ↦ omega arith | inr (inr e) ↦ omega arith ]), flat a f)

pub accepted_by_test : (a : Alphabet) (s : List ℕ) (t : Ast) → IsPattern (unit_of a) s t → acceptb s t ≡ true → Accepted a s t
accepted_by_test a s t d h =
    let (k₁, m) = and_parts (leb (length s) 512) (soundb t && (leb (length (places_of t)) 64 && leb (widths_in t) 4095)) h in
    let (k₂, n) = and_parts (soundb t) (leb (length (places_of t)) 64 && leb (widths_in t) 4095) m in
    let (k₃, k₄) = and_parts (leb (length (places_of t)) 64) (leb (widths_in t) 4095) n in
    let x = sound t k₂ in
    accepted a s t d (leb-true _ _ k₁) (λ v e. one_tree (unit_of a) s t v d e)
    (x.0, x.1, x.2, x.3, leb-true _ _ k₃, leb-true _ _ k₄)
