-- Nullable, firsts and lasts by rows.
use Rattle.automata.proofs.firsts_and_lasts.Goals as goal
use Rattle.automata.proofs.Fronts.{nullable_by_rows}
use Rattle.automata.proofs.Readings.{rows_by_places, firsts_by_rows, lasts_by_rows}

pub returns : goal.returns
returns c = record { nullables = nullable_by_rows; rows = rows_by_places; firsts = firsts_by_rows; lasts = lasts_by_rows }
