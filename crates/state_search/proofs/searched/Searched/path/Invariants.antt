use Rattle.std.proofs.Common.{◌≡◌, ◌<◌, ◌++◌, length}
use Rattle.state_search.proofs.Walking.{path_to}
use Rattle.state_search.proofs.searched.Searched.path.Given as goal

abbrev pub invariant-loop-came : goal.invariant-loop-came
invariant-loop-came g l = record {
  within : l.at < length l.self-inside.states;
  path : path_to l.self-inside.states l.place ≡ l.path.items ++ path_to l.self-inside.states l.at;
}

abbrev pub decreases-loop-came : goal.decreases-loop-came
decreases-loop-came g l = l.at
