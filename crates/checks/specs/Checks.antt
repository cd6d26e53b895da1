-- What the checks of a tree answer: the first that finds something, where those before it find nothing.
use Rattle.std.specs.Prelude.{◌≡◌, ◌<◌, ◌≤◌, length, Ok, Err, Result, slice_index}
use Rattle.grammar.specs.Ast.{Ast}
use Rattle.refusals.specs.declared.Refusal.{Refusal}
use Rattle.refusals.specs.declared.Refusal.TheVariants.{Length, Byte, End, Range, Empty, Bounds, Nested, Places, Counts, Symbol, Work, Code, Full, Complete, Stuck, Memory}
use Rattle.checks.specs.Faults.{BackwardAt, EmptyAt, BoundsAt, NestedAt, places_of, Leftmost, Nowhere}
use Rattle.checks.specs.Widths.{widths_in}

abbrev pub Checked : Ast → Result (Unit {0}) Refusal → Type 0
Checked t (Ok u) = Nowhere (BackwardAt t) × Nowhere (EmptyAt t) × Nowhere (BoundsAt t) × Nowhere (NestedAt t) × (length (places_of t) ≤ 64) × (widths_in t ≤ 4095)
Checked t (Err (Range p)) = Leftmost (BackwardAt t) p
Checked t (Err (Empty p)) = Nowhere (BackwardAt t) × Leftmost (EmptyAt t) p
Checked t (Err (Bounds p)) = Nowhere (BackwardAt t) × Nowhere (EmptyAt t) × Leftmost (BoundsAt t) p
Checked t (Err (Nested p)) = Nowhere (BackwardAt t) × Nowhere (EmptyAt t) × Nowhere (BoundsAt t) × Leftmost (NestedAt t) p
Checked t (Err (Places p)) = Nowhere (BackwardAt t) × Nowhere (EmptyAt t) × Nowhere (BoundsAt t) × Nowhere (NestedAt t) × (64 < length (places_of t)) × (p ≡ slice_index (places_of t) 64)
Checked t (Err Counts) = Nowhere (BackwardAt t) × Nowhere (EmptyAt t) × Nowhere (BoundsAt t) × Nowhere (NestedAt t) × (length (places_of t) ≤ 64) × (4095 < widths_in t)
Checked t (Err Length) = ⊥
Checked t (Err (Byte p)) = ⊥
Checked t (Err (End p)) = ⊥
Checked t (Err Symbol) = ⊥
Checked t (Err Work) = ⊥
Checked t (Err Code) = ⊥
Checked t (Err Full) = ⊥
Checked t (Err Complete) = ⊥
Checked t (Err Stuck) = ⊥
Checked t (Err Memory) = ⊥
