use Rattle.std.proofs.Common.{◌≡◌, None}
use Rattle.irq_hotplug.specs.Held.{held_in}
use Rattle.irq_hotplug.specs.Placing.{first_free, is_asked}
use Rattle.irq_hotplug.proofs.vectors.Vectors.take_among.Given as goal

abbrev pub invariant-loop-i : goal.invariant-loop-i
invariant-loop-i l = record {
  same : l.self ≡ l.initial.self;
  none : first_free (held_in l.self) l.self.vectors (is_asked l.online l.mask l.inside) l.i ≡ None;
}
