-- What each part of a pattern begins with, and that this never is what may follow the part before.
use Rattle.std.proofs.Common.{◌≡◌, ℕ, ◌≤◌, ◌⊎◌, List, Option, sym, subst, inl, inr, arith}
use Rattle.grammar.specs.Codes.{Codes, Letter, Digit, LetterUnit, ColourUnit}
use Rattle.grammar.specs.Ast.{Ast, Repetition}
use Rattle.grammar.specs.Grammar.{byte, OneUnit, Body, Bound, Quantifier, Branch, Piece, Atom, letter, tile, nothing, one, range, tiles, any, some, maybe, exactly, between, with_bound, none, then, once, often, one_unit, members, others, group}
use Rattle.grammar.specs.Reading.{QuantifierByte, AfterPattern, AfterBranch, AfterPiece, AfterNumber}

-- `.`, a capital or a letter
abbrev pub FirstOfUnit : ℕ → Type 0
FirstOfUnit c = (c ≡ 46) ⊎ (((65 ≤ c) × (c ≤ 90)) ⊎ Letter c)

abbrev pub FirstOfAtom : ℕ → Type 0
FirstOfAtom c = (c ≡ 40) ⊎ ((c ≡ 91) ⊎ FirstOfUnit c)

from_letter : {c : ℕ} → LetterUnit c → FirstOfUnit c
from_letter x = grind arith

from_colour : {c : ℕ} → ColourUnit c → FirstOfUnit c
from_colour x = grind arith

pub unit_first : {u : ℕ} {s : List ℕ} {i j : ℕ} {m : Codes} → OneUnit u s i j m → FirstOfUnit (byte s i)
unit_first (letter a b c) = subst FirstOfUnit (sym b) (from_letter c)
unit_first (tile a b c d e) = subst FirstOfUnit (sym b) (from_colour c)

-- a body begins with a letter or a colour, or is empty and followed by `]`
abbrev pub FirstOfBody : ℕ → ℕ → Type 0
FirstOfBody u c = (c ≡ 93) ⊎ (((u ≡ 1) × Letter c) ⊎ ((u ≡ 2) × ColourUnit c))

unit_colour : {u : ℕ} {s : List ℕ} {i j : ℕ} {m : Codes} → u ≡ 2 → OneUnit u s i j m → ColourUnit (byte s i)
unit_colour v (letter a b c) = absurd (omega arith)
unit_colour v (tile a b c d e) = subst ColourUnit (sym b) c

pub body_first : {u : ℕ} {s : List ℕ} {i j : ℕ} {x : Codes × Option ℕ} → Body u s i j x → byte s j ≡ 93 → FirstOfBody u (byte s i)
body_first nothing e = inl e
body_first (one a b c d) e = inr (inl (a, (omega arith, omega arith)))
body_first (range a b c d f g h) e = inr (inl (a, (omega arith, omega arith)))
body_first (tiles a b c) e = inr (inr (a, unit_colour a b))

pub bound_first : {s : List ℕ} {i j : ℕ} {b : ℕ × ℕ} → Bound s i j b → byte s i ≡ 123
bound_first (exactly a b c) = a
bound_first (between a b c d e) = a

pub quantifier_first : {s : List ℕ} {i j : ℕ} {q : Repetition} → Quantifier s i j q → QuantifierByte (byte s i)
quantifier_first (any a) = inl a
quantifier_first (some a) = inr (inl a)
quantifier_first (maybe a) = inr (inr (inl a))
quantifier_first (with_bound a) = inr (inr (inr (bound_first a)))

pub atom_first : {u : ℕ} {s : List ℕ} {i j : ℕ} {t : Ast} → Atom u s i j t → FirstOfAtom (byte s i)
atom_first (one_unit a) = inr (inr (unit_first a))
atom_first (members a b c) = inr (inl a)
atom_first (others a b c d) = inr (inl a)
atom_first (group e p f) = inl e

pub piece_first : {u : ℕ} {s : List ℕ} {i j : ℕ} {t : Ast} → Piece u s i j t → FirstOfAtom (byte s i)
piece_first (once a) = atom_first a
piece_first (often a e) = atom_first a

pub not_after_branch : {c : ℕ} → FirstOfAtom c → AfterBranch c → ⊥
not_after_branch x y = grind arith

pub piece_then_atom : {c : ℕ} → FirstOfAtom c → AfterPiece c
piece_then_atom x y = grind arith

pub piece_then_stop : {c : ℕ} → AfterBranch c → AfterPiece c
piece_then_stop x y = grind arith

pub branch_first : {u : ℕ} {s : List ℕ} {i j : ℕ} {t : Ast} → Branch u s i j t → AfterBranch (byte s j) → AfterPiece (byte s i)
branch_first none a = piece_then_stop a
branch_first (then p b) a = piece_then_atom (piece_first p)

-- Bytes that cannot be the same.

pub not_bar : {c : ℕ} → AfterPattern c → c ≡ 124 → ⊥
not_bar a e = grind arith

pub not_digit : {c : ℕ} → AfterNumber c → Digit c → ⊥
not_digit a d = grind arith

pub not_dash : {u c : ℕ} → FirstOfBody u c → c ≡ 45 → ⊥
not_dash x y = grind arith

pub not_hat : {u c : ℕ} → FirstOfBody u c → c ≡ 94 → ⊥
not_hat x y = grind arith

pub not_closing : {c : ℕ} → FirstOfUnit c → c ≡ 93 → ⊥
not_closing x y = grind arith

pub not_opening : {c : ℕ} → FirstOfUnit c → (c ≡ 91) ⊎ (c ≡ 40) → ⊥
not_opening x y = grind arith
