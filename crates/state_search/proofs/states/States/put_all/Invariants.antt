use Rattle.std.proofs.Common.{◌≤◌, length}
use Rattle.state_search.specs.Growing.{ArePut}
use Rattle.state_search.proofs.states.States.put_all.Given as goal

abbrev pub invariant-loop-i : goal.invariant-loop-i
invariant-loop-i g l = record {
  put : ArePut l.from l.found l.i l.fn.self l.self;
  grows : length l.fn.self ≤ length l.self;
  few : length l.self ≤ l.most;
}
