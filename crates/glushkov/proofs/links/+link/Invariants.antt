use Rattle.grammar.proofs.tree.Node.TheLaws.{the_size}
use Rattle.glushkov.proofs.links.+link.Given as goal

abbrev pub decreases-link : goal.decreases-link
decreases-link l = the_size l.node.now
