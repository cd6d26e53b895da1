-- What the checks find is the refusal of the text, and a text that they pass is accepted.
use Rattle.std.proofs.Common.{◌≡◌, ℕ, ◌+◌, ◌<◌, ◌≤◌, List, length, IsErrAnd, Ok, Err, Result, sym, refl, subst, inl, inr, arith, lit<}
use Rattle.std.proofs.lemmas.Bool.{cases_lt}
use Rattle.grammar.specs.Ast.{Ast}
use Rattle.grammar.specs.Grammar.{IsPattern}
use Rattle.alphabets.specs.Alphabets.{unit_of}
use Rattle.grammar.specs.Reading.{Tells}
use Rattle.alphabets.specs.declared.Alphabet.{Alphabet}
use Rattle.grammar.specs.declared.tree.Node.{Node}
use Rattle.automata.specs.Language.{In}
use Rattle.refusals.specs.Numbering.{number_of}
use Rattle.refusals.specs.declared.Refusal.{Refusal}
use Rattle.refusals.specs.declared.Refusal.TheVariants.{Length, Byte, End, Range, Empty, Bounds, Nested, Places, Counts, Symbol, Work, Code, Full, Complete, Stuck, Memory}
use Rattle.checks.specs.Faults.{BackwardAt, EmptyAt, BoundsAt, NestedAt, places_of, Nowhere}
use Rattle.syntax.specs.TextLanguage.{tree_of}
use Rattle.checks.specs.Checks.{Checked}
use Rattle.syntax.specs.Refuses.{Applies, Refuses, Accepted, Parses}
use Rattle.syntax.proofs.Numbers.{place_in, refusal_of, known, from_one}
use Rattle.syntax.proofs.Once.{begins_on, begins_whole, of_tree, refused_once}
use Rattle.syntax.proofs.PlaceCounts.{length_places_of}
use Rattle.syntax.proofs.Sums.{widths_sum}
use Rattle.syntax.proofs.Spelled.{pattern_below, pattern_spelled}
use Rattle.syntax.proofs.Formed.{well_formed, width_below}

module _ (a : Alphabet) (s : List ℕ) where
  -- no refusal with a number below n applies
  abbrev Passed : ℕ → Type 0
  Passed n = (q : Refusal) → number_of q < n → Applies a s q → ⊥

  at_first : Passed 1
  at_first q l h = omega (arith, from_one q)

  -- nor does that with number n
  next : (n : ℕ) → Passed n → ((p : ℕ) → Applies a s (refusal_of n p) → ⊥) → Passed (n + 1)
  next n f g q l h = elim (cases_lt (number_of q) n) [ inl x ↦ f q x h | inr x ↦ g (place_in q) (subst (Applies a s) (known q n (omega arith)) h) ]

  -- the one refusal of the text
  pub answer : (r : Refusal) → Refuses a s r → Parses a s (Err r)
  answer r h = inr (h, λ q g. refused_once a s r q h g)

  pub too_long : 512 < length s → Parses a s (Err Length)
  too_long l = answer Length (l, at_first)

  -- what the reader refuses
  told_refused : (e : Refusal) → length s ≤ 512 → Tells a s (Err e) → Parses a s (Err e)
  told_refused (Byte p) l h = answer (Byte p) (h, next 1 at_first (λ q g. omega arith))
  told_refused (End p) l h = answer (End p) (h, next 2 (next 1 at_first (λ q g. omega arith)) (λ q g. begins_on (unit_of a) s q h.1 g))
  told_refused Memory l h = inl (refl, l)
  told_refused Length l h = absurd h
  told_refused (Range p) l h = absurd h
  told_refused (Empty p) l h = absurd h
  told_refused (Bounds p) l h = absurd h
  told_refused (Nested p) l h = absurd h
  told_refused (Places p) l h = absurd h
  told_refused Counts l h = absurd h
  told_refused Symbol l h = absurd h
  told_refused Work l h = absurd h
  told_refused Code l h = absurd h
  told_refused Full l h = absurd h
  told_refused Complete l h = absurd h
  told_refused Stuck l h = absurd h

  pub read_refused : (r : Result Node Refusal) (e : Refusal) → length s ≤ 512 → IsErrAnd r (λ y. y ≡ e) → Tells a s (Err e) → Parses a s r
  read_refused (Ok n) e l x h = absurd x
  read_refused (Err y) e l x h = subst (λ v. Parses a s (Err v)) (sym x) (told_refused e l h)

  -- from here on the text has the tree t
  module _ (t : Ast) (d : IsPattern (unit_of a) s t) (l : length s ≤ 512) where
    read_passed : Passed 4
    read_passed =
        next 3 (next 2 (next 1 at_first (λ q g. omega arith)) (λ q g. begins_on (unit_of a) s q (begins_whole (unit_of a) s t d) g)) (λ q g. g.2 t d)

    ranges_passed : Nowhere (BackwardAt t) → Passed 5
    ranges_passed h = next 4 read_passed (λ p g. h p (of_tree a s t g.0 (Range p) d g.1 g.2).0)

    classes_passed : Nowhere (BackwardAt t) → Nowhere (EmptyAt t) → Passed 6
    classes_passed h₄ h = next 5 (ranges_passed h₄) (λ p g. h p (of_tree a s t g.0 (Empty p) d g.1 g.2).0)

    bounds_passed : Nowhere (BackwardAt t) → Nowhere (EmptyAt t) → Nowhere (BoundsAt t) → Passed 7
    bounds_passed h₄ h₅ h = next 6 (classes_passed h₄ h₅) (λ p g. h p (of_tree a s t g.0 (Bounds p) d g.1 g.2).0)

    nested_passed : Nowhere (BackwardAt t) → Nowhere (EmptyAt t) → Nowhere (BoundsAt t) → Nowhere (NestedAt t) → Passed 8
    nested_passed h₄ h₅ h₆ h = next 7 (bounds_passed h₄ h₅ h₆) (λ p g. h p (of_tree a s t g.0 (Nested p) d g.1 g.2).0)

    places_passed : Nowhere (BackwardAt t) → Nowhere (EmptyAt t) → Nowhere (BoundsAt t) → Nowhere (NestedAt t) → length (places_of t) ≤ 64 → Passed 9
    places_passed h₄ h₅ h₆ h₇ h = next 8 (nested_passed h₄ h₅ h₆ h₇) (λ p g. let x = of_tree a s t g.0 (Places p) d g.1 g.2 in omega (arith, x.0))

    tree_refused : (e : Refusal) → Checked t (Err e) → Refuses a s e
    tree_refused (Range p) h = ((t, d, h), read_passed)
    tree_refused (Empty p) h = ((t, d, h.1), ranges_passed h.0)
    tree_refused (Bounds p) h = ((t, d, h.2), classes_passed h.0 h.1)
    tree_refused (Nested p) h = ((t, d, h.3), bounds_passed h.0 h.1 h.2)
    tree_refused (Places p) h = ((t, d, (h.4, h.5)), nested_passed h.0 h.1 h.2 h.3)
    tree_refused Counts h = ((t, d, omega (arith, widths_sum t, h.5)), places_passed h.0 h.1 h.2 h.3 h.4)
    tree_refused Length h = absurd h
    tree_refused (Byte p) h = absurd h
    tree_refused (End p) h = absurd h
    tree_refused Symbol h = absurd h
    tree_refused Work h = absurd h
    tree_refused Code h = absurd h
    tree_refused Full h = absurd h
    tree_refused Complete h = absurd h
    tree_refused Stuck h = absurd h
    tree_refused Memory h = absurd h

    pub check_refused : (r : Result Node Refusal) (e : Refusal) → IsErrAnd r (λ y. y ≡ e) → Checked t (Err e) → Parses a s r
    check_refused (Ok n) e x h = absurd x
    check_refused (Err y) e x h = subst (λ v. Parses a s (Err v)) (sym x) (answer e (tree_refused e h))

    -- a number from 10 on is of no refusal of a text
    none_past : (q : Refusal) → Passed 10 → Applies a s q → ⊥
    none_past Length f h = f Length (lit< tt) h
    none_past (Byte p) f h = f (Byte p) (lit< tt) h
    none_past (End p) f h = f (End p) (lit< tt) h
    none_past (Range p) f h = f (Range p) (lit< tt) h
    none_past (Empty p) f h = f (Empty p) (lit< tt) h
    none_past (Bounds p) f h = f (Bounds p) (lit< tt) h
    none_past (Nested p) f h = f (Nested p) (lit< tt) h
    none_past (Places p) f h = f (Places p) (lit< tt) h
    none_past Counts f h = f Counts (lit< tt) h
    none_past Symbol f h = h
    none_past Work f h = h
    none_past Code f h = h
    none_past Full f h = h
    none_past Complete f h = h
    none_past Stuck f h = h
    none_past Memory f h = h

    pub accepted : ((v : Ast) → IsPattern (unit_of a) s v → t ≡ v) → Checked t (Ok tt) → Accepted a s t
    accepted only h =
        let w = widths_sum t in
        let f : Passed 10 = next 9 (places_passed h.0 h.1 h.2 h.3 h.4) (λ p g. let x = of_tree a s t g.0 Counts d g.1 g.2 in omega (arith, w, x, h.5)) in
        record {
          tree = (d, only);
          unrefused = λ q g. none_past q f g;
          language = λ r. (λ g. subst (λ v. In (tree_of v) r) (sym (only g.0 g.1)) g.2, λ g. (t, d, g));
          formed = well_formed t h.2 h.3;
          spelled = pattern_spelled d h.1;
          codes = pattern_below d;
          places = omega (arith, length_places_of t, h.4);
          wide = width_below t h.2 0;
          counts = omega (arith, w, h.5);
        }
