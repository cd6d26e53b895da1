-- A pattern has as many places as its tree.
use Rattle.std.proofs.Common.{◌≡◌, length, refl, arith, length-append}
use Rattle.automata.specs.Places.{size}
use Rattle.grammar.specs.Ast.{Ast, empty, leaf, class, cat, alt, repeat, star, plus, opt, counted}
use Rattle.checks.specs.Faults.{places_of}
use Rattle.syntax.specs.TextLanguage.{tree_of}

pub length_places_of : (t : Ast) → length (places_of t) ≡ size (tree_of t)
length_places_of empty = refl
length_places_of (leaf i m) = refl
length_places_of (class i m r) = refl
length_places_of (cat a b) = omega (arith, length-append (places_of a) (places_of b), length_places_of a, length_places_of b)
length_places_of (alt a b) = omega (arith, length-append (places_of a) (places_of b), length_places_of a, length_places_of b)
length_places_of (repeat star a) = length_places_of a
length_places_of (repeat plus a) = length_places_of a
length_places_of (repeat opt a) = length_places_of a
length_places_of (repeat (counted at low high) a) = length_places_of a
