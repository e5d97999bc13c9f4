use Rattle.std.proofs.Common.{subst, sym}
use Rattle.irq_hotplug.specs.Fleet.{FleetSeen}
use Rattle.irq_hotplug.specs.Kept.{IsSaidOf}
use Rattle.irq_hotplug.proofs.Leaving.{said_more}
use Rattle.irq_hotplug.proofs.fleet.Fleet.say.Goals as goal

pub invariant_of-self : goal.invariant_of-self
invariant_of-self c = record {
  sized = c.self.invariant.sized;
  number = c.self.invariant.number;
  tie = c.self.invariant.tie;
  queues = c.self.invariant.queues;
  placed = c.self.invariant.placed;
  few = c.self.invariant.few;
  rows = said_more c.self.inside.berths.items c.self.inside.said.items c.push.new.self.items c.args.row c.push.result c.push.ensures.ok c.push.ensures.err
      c.self.invariant.rows
      (subst (λ (f : FleetSeen). IsSaidOf f.berths c.args.row) (sym c.self.view_is) c.requires);
}
