use Rattle.std.proofs.Common.{◌≡◌, Bool, drop}
use Rattle.std.specs.List.{list_any}
use Rattle.irq_base.specs.declared.numbers.DevNo.{DevNo}
use Rattle.plain_next.specs.Tests.{Computes}
use Rattle.plain_next.proofs.lines.any_device.Given as goal

abbrev pub invariant-loop-i : goal.invariant-loop-i
invariant-loop-i g l =
    (x : DevNo → Bool) → Computes (goal.T-post g l.test) x
    → list_any (λ device. x device.dev) l.def.devices ≡ list_any (λ device. x device.dev) (drop l.i l.def.devices)
