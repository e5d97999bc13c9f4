use Rattle.std.proofs.Common.{◌≡◌, ◌++◌, map, take}
use Rattle.irq_base.specs.declared.numbers.DriverNo.{DriverNo}
use Rattle.irq_base.specs.declared.entries.Actor.TheVariants as kinds
use Rattle.workers.proofs.crew.push_drivers.Given as goal

abbrev pub invariant-loop-i : goal.invariant-loop-i
invariant-loop-i l = l.crew.items ≡ l.fn.crew.items ++ map (λ (r : DriverNo). kinds.Driver r) (take l.i l.board.drivers)
