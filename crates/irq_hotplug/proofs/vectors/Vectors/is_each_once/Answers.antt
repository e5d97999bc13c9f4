use Rattle.std.proofs.Common.{subst}
use Rattle.vector_matrix.specs.Vectors.{IsEachOnce}
use Rattle.irq_hotplug.specs.Held.{HeldSeen}
use Rattle.irq_hotplug.proofs.vectors.Vectors.is_each_once.Goals as goal

pub returns : goal.returns
returns c = subst (λ (h : HeldSeen). IsEachOnce h.held) c.self.view_is c.is_known.ensures.once
