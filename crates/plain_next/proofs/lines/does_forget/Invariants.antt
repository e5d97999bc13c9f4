use Rattle.std.proofs.Common.{◌≡◌, ◌&&◌, drop}
use Rattle.std.specs.List.{list_any}
use Rattle.irq_model.specs.Lines.{is_device, does_forget}
use Rattle.plain_next.proofs.lines.does_forget.Given as goal

abbrev pub invariant-loop-i : goal.invariant-loop-i
invariant-loop-i l = does_forget l.def l.dev ≡ list_any (λ x. is_device l.dev x && x.forgets) (drop l.i l.def.devices)
