-- The texts of the table that are refused: for a class, for a repeat inside another, and by the grammar.
use Rattle.std.proofs.Common.{◌≡◌, ℕ, ◌<◌, ◌≤◌, false, List, length, Err, codes, refl, ap, inl, inr, arith, lit<, lit≤}
use Rattle.std.proofs.lemmas.Bool.Decides.{nat_tests}
use Rattle.grammar.specs.Ast.{Ast, Repetition}
use Rattle.grammar.specs.Codes.{codes_of_range, no_codes, joined_codes, other_codes}
use Rattle.grammar.specs.Grammar.{back_of, Number, Quantifier, Pattern, Atom, any, last, once}
use Rattle.grammar.specs.Reading.{AfterPattern, AfterNumber, Anything, Read, Stops}
use Rattle.alphabets.specs.declared.Alphabet.TheVariants.{Letters}
use Rattle.grammar.proofs.Firsts.{not_after_branch, atom_first}
use Rattle.grammar.proofs.BoundStops.{number_stops_first, bound_stops_in_high, quantifier_stops_in_bound}
use Rattle.grammar.proofs.PatternStops.{piece_stops_in_atom, piece_stops_in_quantifier, piece_stops_at_second, group_stops_at_end, pattern_stops_in_branch, branch_stops_in_piece}
use Rattle.grammar.proofs.Whole.{byte_at, end_at}
use Rattle.refusals.specs.Numbering.{number_of}
use Rattle.refusals.specs.declared.Refusal.{Refusal}
use Rattle.refusals.specs.declared.Refusal.TheVariants.{Byte, End, Empty, Nested}
use Rattle.checks.specs.Checks.{Checked}
use Rattle.syntax.specs.Refuses.{Refuses, Parses}
use Rattle.syntax.proofs.Refused.{check_refused, read_refused}
use Rattle.worked_examples.proofs.Accepting.{no_range}
use Rattle.worked_examples.proofs.Derivations.{an_a, a_three, only, Derived, no_letter, no_body, counted_inside}

-- what reading answers is the refusal of the text, unless it is want of memory
refusal : (s : List ℕ) (r : Refusal) → number_of r < 40 → Parses Letters s (Err r) → Refuses Letters s r
refusal s r l (inl h) = let e = ap number_of h.0 in absurd (omega arith)
refusal s r l (inr h) = h.0

-- the text has a tree, in which the checks find this
by_checks : (s : List ℕ) (d : Derived 1 s) (r : Refusal) → length s ≤ 512 → number_of r < 40 → Checked d.0 (Err r) → Refuses Letters s r
by_checks s d r l n h = refusal s r n (check_refused Letters s d.0 d.1 l (Err r) r refl h)

-- the pattern stops at the byte p, or at the end of the text
by_byte : (s : List ℕ) (p : ℕ) → length s ≤ 512 → p < length s → Stops Ast (Pattern 1) AfterPattern s 0 p → Refuses Letters s (Byte p)
by_byte s p l m h = refusal s (Byte p) (lit< tt) (read_refused Letters s (Err (Byte p)) (Byte p) l refl (byte_at m h))

by_end : (s : List ℕ) (p : ℕ) → length s ≤ 512 → p ≡ length s → Stops Ast (Pattern 1) AfterPattern s 0 p → Refuses Letters s (End p)
by_end s p l e h = refusal s (End p) (lit< tt) (read_refused Letters s (Err (End p)) (End p) l refl (end_at e h))

-- ---- a class that spells no code

no_code : (k : ℕ) → other_codes 26 (joined_codes (codes_of_range 97 122) no_codes) k ≡ false
unfolding codes_of_range
no_code k = grind (arith, nat_tests)

pub no_letter_refused : Refuses Letters (codes "[^a-z]") (Empty 0)
unfolding back_of
no_letter_refused =
    by_checks (codes "[^a-z]") no_letter (Empty 0) (lit≤ tt) (lit< tt) (
      λ p h. elim h [ inl e ↦ no_range _ p refl e | inr e ↦ e ],
      (inl (refl, no_code), λ q h. omega arith),
    )

pub no_body_refused : Refuses Letters (codes "[]") (Empty 0)
no_body_refused =
    by_checks (codes "[]") no_body (Empty 0) (lit≤ tt) (lit< tt) (
      λ p h. elim h [ inl e ↦ no_range _ p refl e | inr e ↦ e ],
      (inl (refl, λ k. refl), λ q h. omega arith),
    )

-- ---- a counted repeat inside another

pub counted_inside_refused : Refuses Letters (codes "(a{2}){3}") (Nested 2)
counted_inside_refused =
    by_checks (codes "(a{2}){3}") counted_inside (Nested 2) (lit≤ tt) (lit< tt) (
      λ p h. grind arith,
      λ p h. grind arith,
      λ p h. grind arith,
      (inl (inl (inr refl)), λ q h. grind arith),
    )

-- ---- the grammar

-- `a` and a second quantifier
second_quantifier : Stops Ast (Pattern 1) AfterPattern (codes "a**") 0 2
second_quantifier =
    let s = codes "a**" in
    let a = an_a {s = s} {i = 0} refl in
    let atom : Read Ast (Atom 1) Anything s 0 0 1 _ = record { ahead = lit≤ tt; inside = lit≤ tt; derives = a; after = tt } in
    let first : Read Repetition Quantifier Anything s 0 1 2 _ = record { ahead = lit≤ tt; inside = lit≤ tt; derives = any refl; after = tt } in
    let piece = piece_stops_at_second atom first (inl refl) in
    pattern_stops_in_branch 2 (branch_stops_in_piece {s = s} (not_after_branch (atom_first a)) 2 piece)

pub second_quantifier_refused : Refuses Letters (codes "a**") (Byte 2)
second_quantifier_refused = by_byte (codes "a**") 2 (lit≤ tt) (lit< tt) second_quantifier

-- `(` and a pattern, and no `)`
group_not_closed : Stops Ast (Pattern 1) AfterPattern (codes "(a") 0 2
group_not_closed =
    let s = codes "(a" in
    let d = last (only (once (an_a {s = s} {i = 1} refl))) in
    let inner : Read Ast (Pattern 1) AfterPattern s 0 1 2 _ = record { ahead = lit≤ tt; inside = lit≤ tt; derives = d; after = inl refl } in
    let piece = piece_stops_in_atom 2 (group_stops_at_end {s = s} {i = 0} refl inner refl) in
    pattern_stops_in_branch 2 (branch_stops_in_piece {s = s} (not_after_branch (inl refl)) 2 piece)

pub group_not_closed_refused : Refuses Letters (codes "(a") (End 2)
group_not_closed_refused = by_end (codes "(a") 2 (lit≤ tt) refl group_not_closed

-- a bound with a low and a comma, and no digit after it
high_missing : Stops Ast (Pattern 1) AfterPattern (codes "a{3,}") 0 4
high_missing =
    let s = codes "a{3,}" in
    let a = an_a {s = s} {i = 0} refl in
    let atom : Read Ast (Atom 1) Anything s 0 0 1 _ = record { ahead = lit≤ tt; inside = lit≤ tt; derives = a; after = tt } in
    let low : Read ℕ Number AfterNumber s 0 2 3 3 = record { ahead = lit≤ tt; inside = lit≤ tt; derives = a_three refl; after = inl refl } in
    let high = number_stops_first {s = s} {i = 4} (lit≤ tt) (λ d. omega (arith, d.0, d.1)) in
    let bound = bound_stops_in_high {s = s} {i = 1} {k = 3} refl low refl 4 high in
    let piece = piece_stops_in_quantifier atom (inr (inr (inr refl))) 4 (quantifier_stops_in_bound {s = s} {i = 1} refl 4 bound) in
    pattern_stops_in_branch 4 (branch_stops_in_piece {s = s} (not_after_branch (atom_first a)) 4 piece)

pub high_missing_refused : Refuses Letters (codes "a{3,}") (Byte 4)
high_missing_refused = by_byte (codes "a{3,}") 4 (lit≤ tt) (lit< tt) high_missing
