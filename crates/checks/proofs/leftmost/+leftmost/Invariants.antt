-- The tree gets smaller.
use Rattle.grammar.proofs.tree.Node.TheLaws.{the_size}
use Rattle.checks.proofs.leftmost.+leftmost.Given as goal

abbrev pub decreases-leftmost : goal.decreases-leftmost
decreases-leftmost g l = the_size l.n.now
