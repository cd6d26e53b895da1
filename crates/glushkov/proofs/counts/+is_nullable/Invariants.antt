use Rattle.grammar.proofs.tree.Node.TheLaws.{the_size}
use Rattle.glushkov.proofs.counts.+is_nullable.Given as goal

abbrev pub decreases-is_nullable : goal.decreases-is_nullable
decreases-is_nullable l = the_size l.node.now
