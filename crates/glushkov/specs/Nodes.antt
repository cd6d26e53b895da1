-- What a pass does at a repeat.
use Rattle.std.specs.Prelude.{ℕ, Bool, true, cond, ◌||◌, Some, None, Option, ◌==◌}
use Rattle.automata.specs.Language.{Tree}
use Rattle.grammar.specs.Nodes.{ast_of}
use Rattle.grammar.specs.declared.tree.Node.{Node}
use Rattle.grammar.specs.declared.tree.Times.{Times}
use Rattle.grammar.specs.declared.tree.Times.TheVariants.{Star, Plus, Opt, Counted}
use Rattle.syntax.specs.TextLanguage.{tree_of}
use Rattle.tables.specs.declared.links.Link.{Link}
use Rattle.tables.specs.declared.links.Link.TheVariants.{Within, Next, Cross}

-- The tree of a node, without byte places.
abbrev pub tree_in : Node → Tree
tree_in n = tree_of (ast_of n)

-- A repeat's body lies inside a counted repeat: this one, or one around it.
abbrev pub body_inside : Times → Bool → Bool
body_inside Star inside = inside
body_inside Plus inside = inside
body_inside Opt inside = inside
body_inside (Counted at bounds) inside = true

-- The link of a meeting: within inside a counted repeat's body, else cross.
abbrev pub meeting : Bool → Link
meeting inside = cond inside Within Cross

-- The link from each last of a repeat's body to each first: none for `?`, and next for a counted repeat.
abbrev pub again : Times → Bool → Option Link
again Star inside = Some (meeting inside)
again Plus inside = Some (meeting inside)
again Opt inside = None
again (Counted at bounds) inside = Some Next

-- A repeat is nullable, by whether its body is.
abbrev pub nullable_in : Times → Bool → Bool
nullable_in Star body = true
nullable_in Plus body = body
nullable_in Opt body = true
nullable_in (Counted at bounds) body = bounds.0 == 0 || body

-- The low and the width that a repeat gives the places of its body, by those that a counted repeat around it gives.
abbrev pub bounds_of_body : Times → Bool → Option (ℕ × ℕ) → Option (ℕ × ℕ)
bounds_of_body Star null b = b
bounds_of_body Plus null b = b
bounds_of_body Opt null b = b
bounds_of_body (Counted at bounds) null None = Some (cond null 0 bounds.0, bounds.1)
bounds_of_body (Counted at bounds) null (Some b) = Some b
