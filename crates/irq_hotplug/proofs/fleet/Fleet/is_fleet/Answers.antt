use Rattle.std.proofs.Common.{◌≤◌, count_by, subst, arith}
use Rattle.irq_hotplug.specs.Berths.{stands_at}
use Rattle.irq_hotplug.specs.Fleet.{FleetSeen}
use Rattle.irq_hotplug.proofs.fleet.Fleet.is_fleet.Goals as goal

pub returns-clause-differ : goal.returns-clause-differ
returns-clause-differ c v =
    subst (λ (f : FleetSeen). count_by (stands_at v) f.berths ≤ 1) c.self.view_is (omega (arith, c.self.invariant.tie v, c.is_each_once.ensures v))
