-- The digits that may still come fall.
use Rattle.grammar.proofs.reader.Reader.+digits.Given as goal

abbrev pub decreases-digits : goal.decreases-digits
decreases-digits l = l.more
