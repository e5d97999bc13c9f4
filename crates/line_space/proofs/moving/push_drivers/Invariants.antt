use Rattle.std.proofs.Common.{◌≡◌, ◌++◌, drop}
use Rattle.line_space.specs.Stepping.{drivers_of}
use Rattle.line_space.proofs.moving.push_drivers.Given as goal

abbrev pub invariant-loop-driver : goal.invariant-loop-driver
invariant-loop-driver l = l.actors.items ++ drivers_of (drop l.driver-index l.drivers) ≡ l.fn.actors.items ++ drivers_of l.drivers
