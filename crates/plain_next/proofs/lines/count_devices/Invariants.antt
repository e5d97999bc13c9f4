use Rattle.std.proofs.Common.{◌≡◌, ◌≤◌, ◌+◌, Bool, drop}
use Rattle.irq_base.specs.declared.numbers.DevNo.{DevNo}
use Rattle.irq_model.specs.Places.{count_of}
use Rattle.plain_next.specs.Tests.{Computes}
use Rattle.plain_next.proofs.lines.count_devices.Given as goal

abbrev pub invariant-loop-i : goal.invariant-loop-i
invariant-loop-i g l =
    ((x : DevNo → Bool) → Computes (goal.T-post g l.test) x
    → count_of (λ device. x device.dev) l.def.devices ≡ l.count + count_of (λ device. x device.dev) (drop l.i l.def.devices))
    × (l.count ≤ l.i)
