use Rattle.std.proofs.Common.{subst, arith}
use Rattle.irq_hotplug.specs.Kept.{HasQueue}
use Rattle.irq_hotplug.proofs.berths.place_of.Goals as goal

pub place_on-requires : goal.place_on-requires
place_on-requires c = subst HasQueue c.at-berth.ensures.item (c.requires c.loop-i.i c.at-berth.result (omega arith))
