use Rattle.std.proofs.Common.{◌≡◌, ◌++◌, drop}
use Rattle.line_space.specs.Stepping.{threads_in}
use Rattle.line_space.proofs.moving.push_threads.Given as goal

abbrev pub invariant-loop-i : goal.invariant-loop-i
invariant-loop-i l = l.actors.items ++ threads_in (drop l.i l.def.devices) ≡ l.fn.actors.items ++ threads_in l.def.devices
