use Rattle.std.proofs.Common.{◌≡◌, drop}
use Rattle.line_valid.specs.Deciding.{has_distinct}
use Rattle.line_valid.proofs.devices.has_distinct.Given as goal

abbrev pub invariant-loop-i : goal.invariant-loop-i
invariant-loop-i l = has_distinct l.devices ≡ has_distinct (drop l.i l.devices)
