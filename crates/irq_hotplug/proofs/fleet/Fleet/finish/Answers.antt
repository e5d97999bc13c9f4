use Rattle.std.proofs.Common.{ap, ◌∙◌}
use Rattle.std.specs.List.{list_any}
use Rattle.vector_matrix.specs.Vectors.{vector_of}
use Rattle.irq_hotplug.specs.Berths.{stands_at}
use Rattle.irq_hotplug.specs.Fleet.{FleetSeen}
use Rattle.irq_hotplug.proofs.Leaving.{held_is_there}
use Rattle.irq_hotplug.proofs.fleet.Fleet.finish.Goals as goal

pub returns : goal.returns
returns c cpu v lt few =
    c.finish.ensures cpu v lt few
    ∙ held_is_there c.self.inside.held.held c.self.inside.berths.items (vector_of cpu v) (c.self.invariant.tie (vector_of cpu v))
    ∙ ap (λ (f : FleetSeen). list_any (stands_at (vector_of cpu v)) f.berths) c.self.view_is
