-- The tree gets smaller.
use Rattle.grammar.proofs.tree.Node.TheLaws.{the_size}
use Rattle.checks.proofs.budget.+places_behind.Given as goal

abbrev pub decreases-places_behind : goal.decreases-places_behind
decreases-places_behind l = the_size l.n.now
