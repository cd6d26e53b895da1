-- A derivation goes forward in the text: what it covers ends no earlier than it begins, and later where it is never empty.
use Rattle.std.proofs.Common.{ℕ, ◌<◌, ◌≤◌, List, Option, arith}
use Rattle.grammar.specs.Codes.{Codes}
use Rattle.grammar.specs.Ast.{Ast, Repetition}
use Rattle.grammar.specs.Grammar.{OneUnit, Body, Digits, Number, Bound, Quantifier, Pattern, Branch, Piece, Atom, letter, tile, nothing, one, range, tiles, done, digit, number, any, some, maybe, exactly, between, with_bound, last, more, none, then, once, often, one_unit, members, others, group}

pub unit_on : {u : ℕ} {s : List ℕ} {i j : ℕ} {m : Codes} → OneUnit u s i j m → i < j
unit_on (letter a b c) = omega arith
unit_on (tile a b c d e) = omega arith

pub body_on : {u : ℕ} {s : List ℕ} {i j : ℕ} {x : Codes × Option ℕ} → Body u s i j x → i ≤ j
body_on nothing = omega arith
body_on (one a b c d) = let x = body_on d in omega arith
body_on (range a b c d e f h) = let x = body_on h in omega arith
body_on (tiles a b c) = let y = unit_on b in let x = body_on c in omega arith

pub digits_on : {s : List ℕ} {k v i j w : ℕ} → Digits s k v i j w → i ≤ j
digits_on done = omega arith
digits_on (digit a b c) = let x = digits_on c in omega arith

pub number_on : {s : List ℕ} {i j v : ℕ} → Number s i j v → i < j
number_on (number a b c) = let x = digits_on c in omega arith

pub bound_on : {s : List ℕ} {i j : ℕ} {b : ℕ × ℕ} → Bound s i j b → i < j
bound_on (exactly a b c) = let x = number_on b in omega arith
bound_on (between a b c d e) = let x = number_on b in let y = number_on d in omega arith

pub quantifier_on : {s : List ℕ} {i j : ℕ} {q : Repetition} → Quantifier s i j q → i < j
quantifier_on (any a) = omega arith
quantifier_on (some a) = omega arith
quantifier_on (maybe a) = omega arith
quantifier_on (with_bound a) = bound_on a

mutual
  pub pattern_on : {u : ℕ} {s : List ℕ} {i j : ℕ} {t : Ast} → Pattern u s i j t → i ≤ j
  pattern_on (last b) = branch_on b
  pattern_on (more b e p) = let x = branch_on b in let y = pattern_on p in omega arith

  pub branch_on : {u : ℕ} {s : List ℕ} {i j : ℕ} {t : Ast} → Branch u s i j t → i ≤ j
  branch_on none = omega arith
  branch_on (then p b) = let x = piece_on p in let y = branch_on b in omega arith

  pub piece_on : {u : ℕ} {s : List ℕ} {i j : ℕ} {t : Ast} → Piece u s i j t → i < j
  piece_on (once a) = atom_on a
  piece_on (often a m) = let x = atom_on a in let y = quantifier_on m in omega arith

  pub atom_on : {u : ℕ} {s : List ℕ} {i j : ℕ} {t : Ast} → Atom u s i j t → i < j
  atom_on (one_unit a) = unit_on a
  atom_on (members a b c) = let x = body_on b in omega arith
  atom_on (others a b c d) = let x = body_on c in omega arith
  atom_on (group e p f) = let x = pattern_on p in omega arith
