-- What is said of an accepted pattern, in terms of its tree.
use Rattle.std.specs.Prelude.{◌≡◌, ℕ, ◌+◌, ◌<◌, List, vec_items, vec_len, Decides, slice_index, slice_index_or}
use Rattle.automata.specs.Places.{size, First, Last, Holds, low, width}
use Rattle.bits.specs.Members.{member}
use Rattle.grammar.specs.Ast.{Ast}
use Rattle.alphabets.specs.Alphabets.{unit_of}
use Rattle.alphabets.specs.declared.Alphabet.{Alphabet}
use Rattle.checks.specs.Faults.{places_of}
use Rattle.syntax.specs.Refuses.{Accepted}
use Rattle.syntax.specs.TextLanguage.{tree_of}
use Rattle.checks.specs.Widths.{widths_of}
use Rattle.tables.specs.Tables.{TableOf}
use Rattle.descriptions.specs.declared.data.Place.{Place}
use Rattle.descriptions.specs.declared.data.Description.{Description}
use Rattle.class_bodies.specs.ClassBody.{SpellsCodes}

-- The place behind k others: where it stands, the codes that it takes and bytes that spell them, its width and low, whether it is a first or a last.
pub record PlaceOf (a : Alphabet) (t : Ast) (k : ℕ) (r : Place) : Type 0 where
  pub byte : r.byte ≡ slice_index (places_of t) k
  pub codes : (c : ℕ) → Decides (member r.codes c) (Holds (tree_of t) 0 (k + 1) c)
  pub spelled : SpellsCodes (unit_of a) (vec_items r.spelled) (member r.codes)
  pub width : r.width ≡ width (tree_of t) 0 (k + 1)
  pub low : r.low ≡ low (tree_of t) 0 (k + 1)
  pub first : Decides r.first (First (tree_of t) 0 (k + 1))
  pub last : Decides r.last (Last (tree_of t) 0 (k + 1))

-- The text is an accepted pattern of the alphabet a. Its table has the links, its widths take so many counts, and each of its places is told.
pub record Describes (a : Alphabet) (text : List ℕ) (d : Description) : Type 0 where
  pub tree : Ast
  pub accepted : Accepted a text tree
  pub kind : d.kind ≡ a
  pub pattern : d.pattern.now ≡ text
  pub table : TableOf (tree_of tree) d.table
  pub counts : d.counts ≡ widths_of (tree_of tree)
  pub many : vec_len d.places ≡ size (tree_of tree)
  pub each : (k : ℕ) (x : Place) → k < size (tree_of tree) → PlaceOf a tree k (slice_index_or (vec_items d.places) k x)
