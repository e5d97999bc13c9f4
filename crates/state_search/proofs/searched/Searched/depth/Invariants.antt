use Rattle.std.proofs.Common.{◌≡◌, ◌<◌, ◌≤◌, ◌+◌, length}
use Rattle.state_search.proofs.Walking.{path_to}
use Rattle.state_search.proofs.searched.Searched.depth.Given as goal

abbrev pub invariant-loop-came : goal.invariant-loop-came
invariant-loop-came g l = record {
  within : l.at < length l.self-inside.states;
  low : l.steps + l.at ≤ l.place;
  steps : l.steps + length (path_to l.self-inside.states l.at) ≡ length (path_to l.self-inside.states l.place);
}

abbrev pub decreases-loop-came : goal.decreases-loop-came
decreases-loop-came g l = l.at
