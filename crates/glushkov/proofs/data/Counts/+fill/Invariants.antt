use Rattle.grammar.proofs.tree.Node.TheLaws.{the_size}
use Rattle.glushkov.proofs.data.Counts.+fill.Given as goal

abbrev pub decreases-fill : goal.decreases-fill
decreases-fill l = the_size l.node.now
