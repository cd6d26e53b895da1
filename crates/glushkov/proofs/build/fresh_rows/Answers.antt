use Rattle.std.proofs.Common.{refl}
use Rattle.glushkov.proofs.TableMade.{fresh_masks}
use Rattle.glushkov.proofs.build.fresh_rows.Goals as goal

pub returns : goal.returns
returns c = (refl, fresh_masks _ c.none.result refl c.none.ensures)
