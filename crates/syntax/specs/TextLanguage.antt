-- The language of a text: that of its tree, over the codes of the alphabet.
use Rattle.std.specs.Prelude.{ℕ, ◌<◌, T, List}
use Rattle.automata.specs.Language as l
use Rattle.automata.specs.Language.{Tree, In}
use Rattle.grammar.specs.Ast.{Ast, empty, leaf, class, cat, alt, repeat, Repetition, star, plus, opt, counted}
use Rattle.grammar.specs.Grammar.{IsPattern}
use Rattle.alphabets.specs.Alphabets.{unit_of}
use Rattle.alphabets.specs.declared.Alphabet.{Alphabet}

abbrev pub repeated : Repetition → Tree → Tree
repeated star a = l.star a
repeated plus a = l.plus a
repeated opt a = l.opt a
repeated (counted at low high) a = l.rep low high a

-- a pattern's tree without its byte places
abbrev pub tree_of : Ast → Tree
tree_of empty = l.empty
tree_of (leaf at codes) = l.unit codes
tree_of (class at codes back) = l.unit codes
tree_of (cat a b) = l.cat (tree_of a) (tree_of b)
tree_of (alt a b) = l.alt (tree_of a) (tree_of b)
tree_of (repeat q a) = repeated q (tree_of a)

-- the row w belongs to the language of the text s: some tree derives s, and w is in the language of that tree
abbrev pub InText : Alphabet → List ℕ → List ℕ → Type 0
InText a s w = (t : Ast) × IsPattern (unit_of a) s t × In (tree_of t) w

-- every code of every set is below n
abbrev pub CodesBelow : ℕ → Tree → Type 0
CodesBelow n l.empty = Unit {0}
CodesBelow n (l.unit S) = (k : ℕ) → T (S k) → k < n
CodesBelow n (l.cat a b) = CodesBelow n a × CodesBelow n b
CodesBelow n (l.alt a b) = CodesBelow n a × CodesBelow n b
CodesBelow n (l.star a) = CodesBelow n a
CodesBelow n (l.plus a) = CodesBelow n a
CodesBelow n (l.opt a) = CodesBelow n a
CodesBelow n (l.rep lo hi a) = CodesBelow n a
