use Rattle.std.proofs.Common.{◌≡◌, ◌≤◌, length}
use Rattle.irq_model.specs.Places.{before}
use Rattle.plain_next.specs.Passes.{passes}
use Rattle.plain_next.proofs.places.before.Given as goal

abbrev pub invariant-loop-e : goal.invariant-loop-e
invariant-loop-e l = (before (passes l.test) l.past ≡ before (passes l.test) l.rest) × (length l.rest ≤ length l.past)

abbrev pub decreases-loop-e : goal.decreases-loop-e
decreases-loop-e l = length l.rest
