use Rattle.std.proofs.Common.{◌≡◌, drop}
use Rattle.std.specs.List.{list_any}
use Rattle.irq_model.specs.Kinds.{same_driver}
use Rattle.line_space.proofs.drivers.is_there.Given as goal

abbrev pub invariant-loop-there : goal.invariant-loop-there
invariant-loop-there l = list_any (same_driver l.driver) (drop l.there-index l.drivers) ≡ list_any (same_driver l.driver) l.drivers
