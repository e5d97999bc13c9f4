use Rattle.std.proofs.Common.{◌≡◌, ◌++◌, map, filter, take}
use Rattle.irq_base.specs.declared.devices.DeviceDef.{DeviceDef}
use Rattle.irq_base.specs.declared.entries.Actor.TheVariants as kinds
use Rattle.workers.specs.Fit.{has_worker}
use Rattle.workers.proofs.crew.push_threads.Given as goal

abbrev pub invariant-loop-i : goal.invariant-loop-i
invariant-loop-i g l = l.crew.items ≡ l.fn.crew.items ++ map (λ (x : DeviceDef). kinds.Thread x.dev)
    (filter (has_worker l.lines) (take l.i l.board.devices))
