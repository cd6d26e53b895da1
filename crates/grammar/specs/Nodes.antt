-- The tree that a `Node` stands for.
use Rattle.std.specs.Prelude.{ℕ, Option}
use Rattle.bits.specs.Members.{member}
use Rattle.grammar.specs.Codes.{Codes}
use Rattle.grammar.specs.Ast.{Ast, empty, leaf, class, cat, alt, repeat, Repetition, star, plus, opt, counted}
use Rattle.grammar.specs.declared.classes.Spelled.{Spelled}
use Rattle.grammar.specs.declared.tree.Node.{Node}
use Rattle.grammar.specs.declared.tree.Node.TheVariants.{Empty, Leaf, Class, Cat', Alt', Repeat'}
use Rattle.grammar.specs.declared.tree.Times.{Times}
use Rattle.grammar.specs.declared.tree.Times.TheVariants.{Star, Plus, Opt, Counted}

abbrev pub repetition_of : Times → Repetition
repetition_of Star = star
repetition_of Plus = plus
repetition_of Opt = opt
repetition_of (Counted at bounds) = counted at bounds.0 bounds.1

abbrev pub ast_of : Node → Ast
ast_of Empty = empty
ast_of (Leaf at codes) = leaf at (member codes)
ast_of (Class at codes back) = class at (member codes) back
ast_of (Cat' p l q r) = cat (ast_of l) (ast_of r)
ast_of (Alt' p l q r) = alt (ast_of l) (ast_of r)
ast_of (Repeat' p l times) = repeat (repetition_of times) (ast_of l)

-- what the body of a class spells, with its first range that runs backwards
abbrev pub spelled : Spelled → Codes × Option ℕ
spelled x = (member x.codes, x.back)
