use Rattle.std.proofs.Common.{◌≡◌, drop}
use Rattle.irq_hotplug.specs.Berths.{place_of}
use Rattle.irq_hotplug.proofs.berths.place_of.Given as goal

abbrev pub invariant-loop-i : goal.invariant-loop-i
invariant-loop-i l = place_of l.berths l.line ≡ place_of (drop l.i l.berths) l.line
