use Rattle.std.proofs.Common.{◌≡◌, length}
use Rattle.irq_model.specs.Places.{stands}
use Rattle.plain_next.specs.Passes.{passes}
use Rattle.plain_next.proofs.places.stands.Given as goal

abbrev pub invariant-loop-e : goal.invariant-loop-e
invariant-loop-e l = stands (passes l.sets) (passes l.clears) l.past ≡ stands (passes l.sets) (passes l.clears) l.rest

abbrev pub decreases-loop-e : goal.decreases-loop-e
decreases-loop-e l = length l.rest
