use Rattle.std.proofs.Common.{◌≡◌, drop}
use Rattle.std.specs.List.{list_any}
use Rattle.irq_model.specs.Lines.{is_device}
use Rattle.line_valid.proofs.devices.is_there.Given as goal

abbrev pub invariant-loop-i : goal.invariant-loop-i
invariant-loop-i l = list_any (is_device l.dev) (drop l.from l.devices) ≡ list_any (is_device l.dev) (drop l.i l.devices)
