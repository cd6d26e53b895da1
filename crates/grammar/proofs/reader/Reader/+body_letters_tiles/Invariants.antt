-- The remaining bytes fall; `letters` and `tiles` are called at the place of `body`.
use Rattle.std.proofs.Common.{◌+◌, ◌-◌, ◌*◌, length}
use Rattle.grammar.proofs.reader.Reader.+body_letters_tiles.Given as goal

abbrev pub decreases-body : goal.decreases-body
decreases-body l = 2 * (length l.self.now.text.now - l.at) + 1

abbrev pub decreases-letters : goal.decreases-letters
decreases-letters l = 2 * (length l.self.now.text.now - l.at)

abbrev pub decreases-tiles : goal.decreases-tiles
decreases-tiles l = 2 * (length l.self.now.text.now - l.at)
