-- Completions, needs and stuck rows by paths.
use Rattle.automata.proofs.completions_by_paths.Goals as goal
use Rattle.automata.proofs.Completions.{completions_by_paths_lem, need_by_paths, stuck_by_paths, need_unique, need_zero, need_not_stuck}

pub returns : goal.returns
returns c =
    record {
      paths = completions_by_paths_lem;
      shortest = need_by_paths;
      stuck = stuck_by_paths;
      unique = need_unique;
      complete = need_zero;
      apart = need_not_stuck;
    }
