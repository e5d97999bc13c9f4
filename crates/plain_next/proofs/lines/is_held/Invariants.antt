use Rattle.std.proofs.Common.{◌≡◌, ◌&&◌, drop}
use Rattle.std.specs.List.{list_any}
use Rattle.irq_model.specs.Lines.{is_device, is_held}
use Rattle.plain_next.proofs.lines.is_held.Given as goal

abbrev pub invariant-loop-i : goal.invariant-loop-i
invariant-loop-i l = is_held l.def l.dev ≡ list_any (λ x. is_device l.dev x && x.held) (drop l.i l.def.devices)
