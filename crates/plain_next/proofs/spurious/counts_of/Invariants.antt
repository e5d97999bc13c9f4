use Rattle.std.proofs.Common.{◌≡◌, drop}
use Rattle.irq_model.specs.Spurious.{counts_of}
use Rattle.plain_next.proofs.spurious.counts_of.Given as goal

abbrev pub invariant-loop-i : goal.invariant-loop-i
invariant-loop-i l = l.counts ≡ counts_of l.def (drop l.i l.past)
