use Rattle.std.proofs.Common.{◌≡◌, length}
use Rattle.irq_model.specs.Masks.{is_masked}
use Rattle.plain_next.proofs.masks.is_masked.Given as goal

abbrev pub invariant-loop-e : goal.invariant-loop-e
invariant-loop-e l = is_masked l.def l.past ≡ is_masked l.def l.rest

abbrev pub decreases-loop-e : goal.decreases-loop-e
decreases-loop-e l = length l.rest
