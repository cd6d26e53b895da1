-- The worked examples: rows by computing a test on the tree of each text, refusals one by one.
use Rattle.std.proofs.Common.{◌≡◌, ℕ, Bool, true, false, ◌&&◌, eqb, ◌↔◌, List, [], ◌∷◌, codes, refl, subst}
use mathlib.Core.Bool.{false≢true}
use Rattle.std.specs.List.{AllByRecursion}
use Rattle.std.proofs.lemmas.Bool.{and_parts, eqb-true}
use Rattle.automata.specs.Language.{Tree}
use Rattle.automata.specs.Step.{Stands}
use Rattle.automata.specs.Decide.{acceptsb}
use Rattle.automata.specs.Examples.{Listed}
use Rattle.automata.proofs.Computed.{any, front_pairs, needb, Same, front_same, fits_by_test, need_by_test, stuck_by_test}
use Rattle.grammar.specs.Ast.{Ast}
use Rattle.grammar.specs.Codes.{colour_of, codes_of_letter, codes_of_tile}
use Rattle.alphabets.specs.declared.Alphabet.{Alphabet}
use Rattle.alphabets.specs.declared.Alphabet.TheVariants.{Letters, Tiles}
use Rattle.refusals.specs.declared.Refusal.TheVariants.{Byte, End, Empty, Nested}
use Rattle.syntax.specs.Refuses.{Accepted}
use Rattle.syntax.specs.TextLanguage.{tree_of}
use Rattle.worked_examples.specs.Examples.{Said, front, fits, needs, stuck, refused, Means, Example, table, ExamplesHold}
use Rattle.worked_examples.proofs.Accepting.{accepted_by_test}
use Rattle.worked_examples.proofs.Derivations as derived
use Rattle.worked_examples.proofs.Refusing.{no_letter_refused, no_body_refused, counted_inside_refused, second_quantifier_refused, group_not_closed_refused, high_missing_refused}

-- ---- lists of pairs

abbrev sameb : List (ℕ × ℕ) → List (ℕ × ℕ) → Bool
sameb [] [] = true
sameb [] (y ∷ ys) = false
sameb (x ∷ xs) [] = false
sameb (x ∷ xs) (y ∷ ys) = eqb x.0 y.0 && (eqb x.1 y.1 && sameb xs ys)

same : (xs ys : List (ℕ × ℕ)) → sameb xs ys ≡ true → xs ≡ ys
same [] [] h = refl
same [] (y ∷ ys) h = absurd (false≢true h)
same (x ∷ xs) [] h = absurd (false≢true h)
same (x ∷ xs) (y ∷ ys) h =
    let (k, m) = and_parts (eqb x.0 y.0) (eqb x.1 y.1 && sameb xs ys) h in
    let (l, n) = and_parts (eqb x.1 y.1) (sameb xs ys) m in
    let p = eqb-true x.0 y.0 k in
    let q = eqb-true x.1 y.1 l in
    let r = same xs ys n in
    λ i. (p i, q i) ∷ r i

-- ---- what an example says, by a test on the tree of its text

-- the text is accepted, and its tree passes the test
abbrev Tested : Alphabet → List ℕ → (Tree → Bool) → Type 0
Tested a s f = (t : Ast) × Accepted a s t × (f (tree_of t) ≡ true)

-- what has to be shown of an example: the test that computes what it says, or the refusal itself
abbrev Shown : Alphabet → List ℕ → Said → Type 0
Shown a s (front w xs) = Tested a s (λ e. sameb (front_pairs e w) xs)
Shown a s (fits w) = Tested a s (λ e. any (acceptsb e) (front_pairs e w))
Shown a s (needs w n) = Tested a s (λ e. needb e n (front_pairs e w))
Shown a s (stuck w) = Tested a s (λ e. sameb (front_pairs e w) [])
Shown a s (refused n p) = Means a s (refused n p)

shown_holds : (a : Alphabet) (s : List ℕ) (x : Said) → Shown a s x → Means a s x
shown_holds a s (front w xs) (t, h, k) =
    let e = tree_of t in
    let pairs : Same (front_pairs e w) (Stands e w) = front_same e h.formed w in
    let exact : front_pairs e w ≡ xs = same (front_pairs e w) xs k in
    (t, h, subst (λ ys. (p i : ℕ) → (Stands e w p i ↔ Listed ys p i)) exact (λ p i. ((pairs p i).1, (pairs p i).0)))
shown_holds a s (fits w) (t, h, k) = (t, h, (h.language w).1 (fits_by_test (tree_of t) h.formed w k))
shown_holds a s (needs w n) (t, h, k) = (t, h, need_by_test (tree_of t) h.formed h.spelled w n k)
shown_holds a s (stuck w) (t, h, k) = (t, h, stuck_by_test (tree_of t) h.formed h.spelled w (same (front_pairs (tree_of t) w) [] k))
shown_holds a s (refused n p) h = h

all_hold : (xs : List Example) → AllByRecursion (λ x. Shown x.alphabet x.text x.said) xs → AllByRecursion (λ x. Means x.alphabet x.text x.said) xs
all_hold [] h = tt
all_hold (x ∷ xs) h = (shown_holds x.alphabet x.text x.said h.0, all_hold xs h.1)

-- ---- the texts that are accepted

a_four_before_the_end : Accepted Letters (codes ".*a.{3}b") (derived.a_four_before_the_end).0
a_four_before_the_end = accepted_by_test Letters _ _ (derived.a_four_before_the_end).1 refl

five_ones_or_twos : Accepted Letters (codes "(a|aa){5}") (derived.five_ones_or_twos).0
five_ones_or_twos = accepted_by_test Letters _ _ (derived.five_ones_or_twos).1 refl

two_or_three_optional : Accepted Letters (codes "(a?){2,3}") (derived.two_or_three_optional).0
two_or_three_optional = accepted_by_test Letters _ _ (derived.two_or_three_optional).1 refl

pairs_of_a : Accepted Letters (codes "(a{2})*") (derived.pairs_of_a).0
pairs_of_a = accepted_by_test Letters _ _ (derived.pairs_of_a).1 refl

two_reds : Accepted Tiles (codes "R.{2}[B1G.]") (derived.two_reds).0
unfolding codes_of_tile colour_of
two_reds = accepted_by_test Tiles _ _ (derived.two_reds).1 refl

-- ---- the table

-- the proof of a line, and those of the lines after it
infixr 5 ◌&◌
◌&◌ : {P Q : Type 0} → P → Q → P × Q
p & q = (p, q)

pub examples_hold : ExamplesHold
unfolding codes_of_letter codes_of_tile colour_of
examples_hold =
    all_hold table (
    (_, a_four_before_the_end, refl) &
    (_, a_four_before_the_end, refl) &
    (_, a_four_before_the_end, refl) &
    (_, a_four_before_the_end, refl) &
    (_, five_ones_or_twos, refl) &
    (_, five_ones_or_twos, refl) &
    (_, five_ones_or_twos, refl) &
    (_, five_ones_or_twos, refl) &
    (_, two_or_three_optional, refl) &
    (_, two_or_three_optional, refl) &
    (_, two_or_three_optional, refl) &
    (_, pairs_of_a, refl) &
    (_, pairs_of_a, refl) &
    (_, two_reds, refl) &
    (_, two_reds, refl) &
    (_, two_reds, refl) &
    (Empty 0, no_letter_refused, refl, refl) &
    (Empty 0, no_body_refused, refl, refl) &
    (Nested 2, counted_inside_refused, refl, refl) &
    (Byte 2, second_quantifier_refused, refl, refl) &
    (End 2, group_not_closed_refused, refl, refl) &
    (Byte 4, high_missing_refused, refl, refl) &
    tt
    )
