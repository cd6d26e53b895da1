-- Which texts are refused, with which refusal; what none of them refuses is accepted.
use Rattle.std.specs.Prelude.{◌≡◌, ℕ, ◌<◌, ◌≤◌, ◌⊎◌, List, length, Ok, Err, Result, slice_index}
use Rattle.automata.specs.Language.{In, WellFormed, NoEmptySet}
use Rattle.automata.specs.Places.{size, width}
use Rattle.grammar.specs.Ast.{Ast}
use Rattle.grammar.specs.Codes.{codes_of}
use Rattle.grammar.specs.Grammar.{IsPattern}
use Rattle.grammar.specs.Nodes.{ast_of}
use Rattle.alphabets.specs.Alphabets.{unit_of}
use Rattle.grammar.specs.Reading.{ByteAt, EndAt, TheTree}
use Rattle.alphabets.specs.declared.Alphabet.{Alphabet}
use Rattle.grammar.specs.declared.tree.Node.{Node}
use Rattle.refusals.specs.Numbering.{number_of}
use Rattle.refusals.specs.declared.Refusal.{Refusal}
use Rattle.refusals.specs.declared.Refusal.TheVariants.{Length, Byte, End, Range, Empty, Bounds, Nested, Places, Counts, Symbol, Work, Code, Full, Complete, Stuck, Memory}
use Rattle.checks.specs.Faults.{BackwardAt, EmptyAt, BoundsAt, NestedAt, places_of, Leftmost}
use Rattle.syntax.specs.TextLanguage.{tree_of, InText, CodesBelow}
use Rattle.checks.specs.Widths.{widths_of}

-- The condition of each refusal that a tree can give: 4 to 9, each at its leftmost place.
abbrev pub Breaks : Ast → Refusal → Type 0
Breaks t (Range p) = Leftmost (BackwardAt t) p
Breaks t (Empty p) = Leftmost (EmptyAt t) p
Breaks t (Bounds p) = Leftmost (BoundsAt t) p
Breaks t (Nested p) = Leftmost (NestedAt t) p
Breaks t (Places p) = (64 < length (places_of t)) × (p ≡ slice_index (places_of t) 64)
Breaks t Counts = 4096 < widths_of (tree_of t)
Breaks t Length = ⊥
Breaks t (Byte p) = ⊥
Breaks t (End p) = ⊥
Breaks t Symbol = ⊥
Breaks t Work = ⊥
Breaks t Code = ⊥
Breaks t Full = ⊥
Breaks t Complete = ⊥
Breaks t Stuck = ⊥
Breaks t Memory = ⊥

-- The condition of each refusal of a text, by itself: 1 the length, 2 and 3 the grammar, the others the tree of the text.
abbrev pub Applies : Alphabet → List ℕ → Refusal → Type 0
Applies a s Length = 512 < length s
Applies a s (Byte p) = ByteAt (unit_of a) s p
Applies a s (End p) = EndAt (unit_of a) s p
Applies a s (Range p) = (t : Ast) × IsPattern (unit_of a) s t × Breaks t (Range p)
Applies a s (Empty p) = (t : Ast) × IsPattern (unit_of a) s t × Breaks t (Empty p)
Applies a s (Bounds p) = (t : Ast) × IsPattern (unit_of a) s t × Breaks t (Bounds p)
Applies a s (Nested p) = (t : Ast) × IsPattern (unit_of a) s t × Breaks t (Nested p)
Applies a s (Places p) = (t : Ast) × IsPattern (unit_of a) s t × Breaks t (Places p)
Applies a s Counts = (t : Ast) × IsPattern (unit_of a) s t × Breaks t Counts
Applies a s Symbol = ⊥
Applies a s Work = ⊥
Applies a s Code = ⊥
Applies a s Full = ⊥
Applies a s Complete = ⊥
Applies a s Stuck = ⊥
Applies a s Memory = ⊥

-- The refusal of a text: its condition holds, and that of no refusal with a lower number does.
abbrev pub Refuses : Alphabet → List ℕ → Refusal → Type 0
Refuses a s r = Applies a s r × ((q : Refusal) → number_of q < number_of r → Applies a s q → ⊥)

-- What holds of an accepted text s and its tree t.
pub record Accepted (a : Alphabet) (s : List ℕ) (t : Ast) : Type 0 where
  -- t is the only tree of the text, and no refusal applies
  pub tree : TheTree (unit_of a) s t
  pub unrefused : (q : Refusal) → Applies a s q → ⊥
  -- the language of the text is that of t
  pub language : (w : List ℕ) → (InText a s w → In (tree_of t) w) × (In (tree_of t) w → InText a s w)
  -- bounds in order, no counted repeat inside another, every set has a code, and only codes of the alphabet
  pub formed : WellFormed (tree_of t)
  pub spelled : NoEmptySet (tree_of t)
  pub codes : CodesBelow (codes_of (unit_of a)) (tree_of t)
  -- at most 64 places; no width above 1,000; all widths add to at most 4,096
  pub places : size (tree_of t) ≤ 64
  pub wide : (p : ℕ) → width (tree_of t) 0 p ≤ 1000
  pub counts : widths_of (tree_of t) ≤ 4096

-- What `parse` answers: the tree of an accepted text, or the one refusal of the text, or that memory was wanting.
abbrev pub Parses : Alphabet → List ℕ → Result Node Refusal → Type 0
Parses a s (Ok n) = Accepted a s (ast_of n)
Parses a s (Err r) = ((r ≡ Memory) × (length s ≤ 512)) ⊎ (Refuses a s r × ((q : Refusal) → Refuses a s q → q ≡ r))
