-- The number of every refusal, and its place where it has one. All promises about refusals rest on these two definitions.
use Rattle.std.specs.Prelude.{ℕ, Some, None, Option}
use Rattle.refusals.specs.declared.Refusal.{Refusal}
use Rattle.refusals.specs.declared.Refusal.TheVariants.{Length, Byte, End, Range, Empty, Bounds, Nested, Places, Counts, Symbol, Work, Code, Full, Complete, Stuck, Memory}

-- By this number a refusal is known outside. 1 to 9 are about a pattern, in the order in which reading checks for them;
-- 10 to 12 about a value that was entered; 20 to 22 about how things stand; 40 is want of memory.
abbrev pub number_of : Refusal → ℕ
number_of Length = 1
number_of (Byte p) = 2
number_of (End p) = 3
number_of (Range p) = 4
number_of (Empty p) = 5
number_of (Bounds p) = 6
number_of (Nested p) = 7
number_of (Places p) = 8
number_of Counts = 9
number_of Symbol = 10
number_of Work = 11
number_of Code = 12
number_of Full = 20
number_of Complete = 21
number_of Stuck = 22
number_of Memory = 40

-- The byte of the pattern that a refusal points at, counted from 0.
abbrev pub place_of : Refusal → Option ℕ
place_of Length = Some 512
place_of (Byte p) = Some p
place_of (End p) = Some p
place_of (Range p) = Some p
place_of (Empty p) = Some p
place_of (Bounds p) = Some p
place_of (Nested p) = Some p
place_of (Places p) = Some p
place_of Counts = Some 0
place_of Symbol = None
place_of Work = None
place_of Code = None
place_of Full = None
place_of Complete = None
place_of Stuck = None
place_of Memory = None
