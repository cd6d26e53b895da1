-- What each reader answers.
use Rattle.std.specs.Prelude.{◌≡◌, ℕ, ◌+◌, ◌<◌, ◌≤◌, ◌⊎◌, List, length, take, Ok, Err, Result, Some, None, Option, ◌≢◌}
use Rattle.grammar.specs.Codes.{LetterUnit, ColourUnit}
use Rattle.grammar.specs.Ast.{Ast}
use Rattle.grammar.specs.Grammar.{byte, Begins, IsPattern}
use Rattle.grammar.specs.Nodes.{ast_of}
use Rattle.alphabets.specs.Alphabets.{unit_of}
use Rattle.alphabets.specs.Colours.{letter_of}
use Rattle.alphabets.specs.declared.Alphabet.{Alphabet}
use Rattle.alphabets.specs.declared.colours.Colour.{Colour}
use Rattle.grammar.specs.declared.tree.Node.{Node}
use Rattle.grammar.specs.declared.bytes.Role.{Role}
use Rattle.grammar.specs.declared.bytes.Role.TheVariants as roles
use Rattle.refusals.specs.declared.Refusal.{Refusal}
use Rattle.refusals.specs.declared.Refusal.TheVariants.{Length, Byte, End, Range, Empty, Bounds, Nested, Places, Counts, Symbol, Work, Code, Full, Complete, Stuck, Memory}

-- What may come after each part, once it is whole. A byte is given by its number, and 256 is the end of the text.

-- the end or `)`
abbrev pub AfterPattern : ℕ → Type 0
AfterPattern c = (c ≡ 256) ⊎ (c ≡ 41)

-- the same or `|`
abbrev pub AfterBranch : ℕ → Type 0
AfterBranch c = AfterPattern c ⊎ (c ≡ 124)

-- `*`, `+`, `?` or `{`
abbrev pub QuantifierByte : ℕ → Type 0
QuantifierByte c = (c ≡ 42) ⊎ ((c ≡ 43) ⊎ ((c ≡ 63) ⊎ (c ≡ 123)))

-- no second quantifier
abbrev pub AfterPiece : ℕ → Type 0
AfterPiece c = QuantifierByte c → ⊥

-- `,` or `}`
abbrev pub AfterNumber : ℕ → Type 0
AfterNumber c = (c ≡ 44) ⊎ (c ≡ 125)

-- `]`
abbrev pub AfterBody : ℕ → Type 0
AfterBody c = c ≡ 93

abbrev pub Anything : ℕ → Type 0
Anything c = Unit {0}

-- What a byte means where an atom, a quantifier or the end of a branch may stand; u is the unit length.
abbrev pub Means : ℕ → ℕ → Role → Type 0
Means u c roles.Group = c ≡ 40
Means u c roles.Class = c ≡ 91
Means u c roles.Letter = (u ≡ 1) × LetterUnit c
Means u c roles.Tile = (u ≡ 2) × ColourUnit c
Means u c roles.Quantifier = QuantifierByte c
Means u c roles.Stop = AfterBranch c
Means u c roles.Other = (c ≢ 40) × (c ≢ 91) × (u ≡ 1 → LetterUnit c → ⊥) × (u ≡ 2 → ColourUnit c → ⊥) × (QuantifierByte c → ⊥) × (AfterBranch c → ⊥)

-- How the first half of a tile's unit is written: by the letter of a colour, or `.` where it is open.
abbrev pub colour_byte : Option Colour → ℕ
colour_byte None = 46
colour_byte (Some c) = letter_of c

-- And the second: by a digit, or `.`.
abbrev pub face_byte : Option ℕ → ℕ
face_byte None = 46
face_byte (Some f) = 48 + f

-- What a refusal says where one byte was to be read: the one at i is not as wanted, or the text ends there.
abbrev pub Lacks : (ℕ → Type 0) → List ℕ → ℕ → Refusal → Type 0
Lacks Wanted s i e = ((e ≡ Byte i) × ((i < length s) × (Wanted (byte s i) → ⊥))) ⊎ ((e ≡ End i) × (i ≡ length s))

-- The bytes from i on and before q derive x, and what follows may follow; q is at least a given place.
pub record Read (X : Type 0) (R : List ℕ → ℕ → ℕ → X → Type 0) (After : ℕ → Type 0) (s : List ℕ) (least i q : ℕ) (x : X) : Type 0 where
  pub ahead : least ≤ q
  pub inside : q ≤ length s
  pub derives : R s i q x
  pub after : After (byte s q)

-- The bytes from i on and before p begin what is to be read, and those up to and with p do not.
pub record Stops (X : Type 0) (R : List ℕ → ℕ → ℕ → X → Type 0) (After : ℕ → Type 0) (s : List ℕ) (i p : ℕ) : Type 0 where
  pub ahead : i ≤ p
  pub inside : p ≤ length s
  pub begins : (s' : List ℕ) × (x : X) × (take p s ≡ take p s') × R s' i (length s') x
  pub over : (s' : List ℕ) (j : ℕ) (x : X) → take (p + 1) s ≡ take (p + 1) s' → R s' i j x → After (byte s' j) → ⊥

-- What a refusal of a reader says: a byte at which it stops, or that it stops at the end of the text, or nothing for want of memory.
abbrev pub Faults : (X : Type 0) → (List ℕ → ℕ → ℕ → X → Type 0) → (ℕ → Type 0) → List ℕ → ℕ → Refusal → Type 0
Faults X R After s i (Byte p) = (p < length s) × Stops X R After s i p
Faults X R After s i (End p) = (p ≡ length s) × Stops X R After s i p
Faults X R After s i Memory = Unit {0}
Faults X R After s i Length = ⊥
Faults X R After s i (Range p) = ⊥
Faults X R After s i (Empty p) = ⊥
Faults X R After s i (Bounds p) = ⊥
Faults X R After s i (Nested p) = ⊥
Faults X R After s i (Places p) = ⊥
Faults X R After s i Counts = ⊥
Faults X R After s i Symbol = ⊥
Faults X R After s i Work = ⊥
Faults X R After s i Code = ⊥
Faults X R After s i Full = ⊥
Faults X R After s i Complete = ⊥
Faults X R After s i Stuck = ⊥

-- What a reader answers that starts at i: a value that stands for what the bytes derive, with the place after them, or a refusal.
abbrev pub Reads : (V X : Type 0) → (V → X) → (List ℕ → ℕ → ℕ → X → Type 0) → (ℕ → Type 0) → List ℕ → ℕ → ℕ → Result (V × ℕ) Refusal → Type 0
Reads V X f R After s least i (Ok x) = Read X R After s least i x.1 (f x.0)
Reads V X f R After s least i (Err e) = Faults X R After s i e

-- The text stops being the beginning of a pattern with the byte at p.
abbrev pub ByteAt : ℕ → List ℕ → ℕ → Type 0
ByteAt u s p = (p < length s) × Begins u (take p s) × (Begins u (take (p + 1) s) → ⊥)

-- The text, of length p, begins a pattern but is none.
abbrev pub EndAt : ℕ → List ℕ → ℕ → Type 0
EndAt u s p = (p ≡ length s) × Begins u s × ((t : Ast) → IsPattern u s t → ⊥)

-- The only tree of the text.
abbrev pub TheTree : ℕ → List ℕ → Ast → Type 0
TheTree u s t = IsPattern u s t × ((v : Ast) → IsPattern u s v → t ≡ v)

-- What the whole reader answers: the only tree of the text; or the byte with which it stops being the beginning of a pattern;
-- or that it begins one and is none; or that memory was wanting.
abbrev pub Tells : Alphabet → List ℕ → Result Node Refusal → Type 0
Tells a s (Ok n) = TheTree (unit_of a) s (ast_of n)
Tells a s (Err (Byte p)) = ByteAt (unit_of a) s p
Tells a s (Err (End p)) = EndAt (unit_of a) s p
Tells a s (Err Memory) = Unit {0}
Tells a s (Err Length) = ⊥
Tells a s (Err (Range p)) = ⊥
Tells a s (Err (Empty p)) = ⊥
Tells a s (Err (Bounds p)) = ⊥
Tells a s (Err (Nested p)) = ⊥
Tells a s (Err (Places p)) = ⊥
Tells a s (Err Counts) = ⊥
Tells a s (Err Symbol) = ⊥
Tells a s (Err Work) = ⊥
Tells a s (Err Code) = ⊥
Tells a s (Err Full) = ⊥
Tells a s (Err Complete) = ⊥
Tells a s (Err Stuck) = ⊥
