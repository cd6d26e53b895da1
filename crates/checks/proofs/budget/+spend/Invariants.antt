-- The tree gets smaller.
use Rattle.grammar.proofs.tree.Node.TheLaws.{the_size}
use Rattle.checks.proofs.budget.+spend.Given as goal

abbrev pub decreases-spend : goal.decreases-spend
decreases-spend l = the_size l.n.now
