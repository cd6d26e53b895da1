-- The remaining bytes fall; at one place the calls go from pattern to branch, piece, atom and group.
use Rattle.std.proofs.Common.{◌+◌, ◌-◌, ◌*◌, length}
use Rattle.grammar.proofs.reader.Reader.+atom_branch_group_pattern_piece.Given as goal

abbrev pub decreases-pattern : goal.decreases-pattern
decreases-pattern l = 5 * (length l.self.now.text.now - l.at) + 4

abbrev pub decreases-branch : goal.decreases-branch
decreases-branch l = 5 * (length l.self.now.text.now - l.at) + 3

abbrev pub decreases-piece : goal.decreases-piece
decreases-piece l = 5 * (length l.self.now.text.now - l.at) + 2

abbrev pub decreases-atom : goal.decreases-atom
decreases-atom l = 5 * (length l.self.now.text.now - l.at) + 1

abbrev pub decreases-group : goal.decreases-group
decreases-group l = 5 * (length l.self.now.text.now - l.at)
