use Rattle.std.proofs.Common.{◌≡◌, ◌≤◌, ◌++◌, drop, length, All}
use Rattle.irq_hotplug.specs.Fleet.{berths_from}
use Rattle.irq_hotplug.specs.Kept.{IsBare}
use Rattle.irq_hotplug.proofs.lines.berths_of.Given as goal

abbrev pub invariant-loop-i : goal.invariant-loop-i
invariant-loop-i l = record {
  all : l.berths.items ++ berths_from (drop l.i l.defs.items) (drop l.i l.layout) ≡ berths_from l.defs.items l.layout;
  bare : All IsBare l.berths.items;
  few : length l.berths.items ≤ l.i;
}
