use Rattle.std.proofs.Common.{◌≡◌, drop}
use Rattle.irq_hotplug.specs.Berths.{left_out}
use Rattle.irq_hotplug.proofs.berths.left_out.Given as goal

abbrev pub invariant-loop-i : goal.invariant-loop-i
invariant-loop-i l = left_out l.moving l.berths l.found ≡ left_out l.moving (drop l.i l.berths) (drop l.i l.found)
