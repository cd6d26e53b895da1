-- What a search for the leftmost place of a fault asks of each node.
use Rattle.std.specs.Prelude.{ℕ, ◌≤◌, ◌⊎◌, Some, None, Option}
use Rattle.grammar.specs.Ast.{Ast, empty, leaf, class, cat, alt, repeat}
use Rattle.grammar.specs.Nodes.{ast_of}
use Rattle.grammar.specs.declared.tree.Node.{Node}
use Rattle.std.specs.declared.ops.ControlFlow.{ControlFlow}
use Rattle.std.specs.declared.ops.ControlFlow.TheVariants.{Continue, Break}
use Rattle.checks.specs.Faults.{Finds, BackwardAt, EmptyAt, BoundsAt, CountedAt, NestedAt}

-- the faults that are searched for
pub data Fault : Type 0 where
  backward : Fault
  no_code : Fault
  bounds : Fault
  counted : Fault
  nested : Fault

abbrev pub FaultAt : Fault → Ast → ℕ → Type 0
FaultAt backward t p = BackwardAt t p
FaultAt no_code t p = EmptyAt t p
FaultAt bounds t p = BoundsAt t p
FaultAt counted t p = CountedAt t p
FaultAt nested t p = NestedAt t p

-- the fault stands at p in a part of the tree
abbrev pub InParts : Fault → Ast → ℕ → Type 0
InParts f empty p = ⊥
InParts f (leaf at codes) p = ⊥
InParts f (class at codes back) p = ⊥
InParts f (cat a b) p = FaultAt f a p ⊎ FaultAt f b p
InParts f (alt a b) p = FaultAt f a p ⊎ FaultAt f b p
InParts f (repeat q a) p = FaultAt f a p

-- what one node shows of a fault: where it stands, and before there it stands in parts alone
abbrev pub Shows : Fault → Ast → Option ℕ → Type 0
Shows f t None = (p : ℕ) → FaultAt f t p → InParts f t p
Shows f t (Some q) = FaultAt f t q × ((p : ℕ) → FaultAt f t p → (q ≤ p) ⊎ InParts f t p)

-- what is told of a node: what it shows, or what it and all its parts come to
abbrev pub Says : Fault → Ast → ControlFlow (Option ℕ) (Option ℕ) → Type 0
Says f t (Continue here) = Shows f t here
Says f t (Break all) = Finds (FaultAt f t) all

-- every answer tells what the node shows of the fault, or all of it
abbrev pub Tells : Fault → (Node → ControlFlow (Option ℕ) (Option ℕ) → Type 0) → Type 0
Tells f answers = (n : Node) (r : ControlFlow (Option ℕ) (Option ℕ)) → answers n r → Says f (ast_of n) r
