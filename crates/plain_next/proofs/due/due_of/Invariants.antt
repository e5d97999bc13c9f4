use Rattle.std.proofs.Common.{◌≡◌, length}
use Rattle.irq_model.specs.Due.{due_of}
use Rattle.plain_next.proofs.due.due_of.Given as goal

abbrev pub invariant-loop-call : goal.invariant-loop-call
invariant-loop-call l = due_of l.calls l.entries ≡ due_of l.rest l.left

abbrev pub decreases-loop-call : goal.decreases-loop-call
decreases-loop-call l = length l.rest
