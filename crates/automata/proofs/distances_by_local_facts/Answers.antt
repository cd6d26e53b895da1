-- What a table of distances tells.
use Rattle.automata.proofs.distances_by_local_facts.Goals as goal
use Rattle.automata.proofs.Distances.{labels_right, need_by_labels, stuck_by_labels, hint_by_labels}

pub returns : goal.returns
returns c = record { labels = labels_right; need = need_by_labels; stuck = stuck_by_labels; hint = hint_by_labels }
