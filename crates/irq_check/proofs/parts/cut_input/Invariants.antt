use Rattle.std.proofs.Common.{length}
use Rattle.irq_check.proofs.Cutting.{IsCutTo}
use Rattle.irq_check.proofs.parts.cut_input.Given as goal

abbrev pub invariant-loop-start : goal.invariant-loop-start
invariant-loop-start l = IsCutTo l.input l.rest l.before

abbrev pub decreases-loop-start : goal.decreases-loop-start
decreases-loop-start l = length l.rest
