use Rattle.std.proofs.Common.{◌≡◌, drop}
use Rattle.irq_model.specs.Links.{requested}
use Rattle.plain_next.proofs.links.requested.Given as goal

abbrev pub invariant-loop-i : goal.invariant-loop-i
invariant-loop-i l = l.devices.items ≡ requested (drop l.i l.past)
