use Rattle.widths.proofs.Rows.{get_or_start}
use Rattle.glushkov.proofs.TableMade.{fresh_codes, fresh_lows}
use Rattle.glushkov.proofs.data.Counts.fresh.Goals as goal

pub returns : goal.returns
returns c = record { sets = fresh_codes c.empty.result c.empty.ensures; widths = get_or_start; lows = fresh_lows c.empty.result }
