use Rattle.std.proofs.Common.{◌≡◌, drop}
use Rattle.irq_model.specs.Spurious.{now}
use Rattle.plain_next.proofs.spurious.now.Given as goal

abbrev pub invariant-loop-i : goal.invariant-loop-i
invariant-loop-i l = l.latest ≡ now (drop l.i l.past)
