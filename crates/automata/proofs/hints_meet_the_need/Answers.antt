-- Hints.
use Rattle.automata.proofs.hints_meet_the_need.Goals as goal
use Rattle.automata.proofs.Hints.{hint_exists, hints_count, hints_finish, hint_by_paths, hint_held}

pub returns : goal.returns
returns c = record { exists = hint_exists; counted = hints_count; finish = hints_finish; paths = hint_by_paths; held = hint_held }
