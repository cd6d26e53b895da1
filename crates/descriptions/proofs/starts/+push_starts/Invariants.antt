-- The tree gets smaller.
use Rattle.grammar.proofs.tree.Node.TheLaws.{the_size}
use Rattle.descriptions.proofs.starts.+push_starts.Given as goal

abbrev pub decreases-push_starts : goal.decreases-push_starts
decreases-push_starts l = the_size l.node.now
