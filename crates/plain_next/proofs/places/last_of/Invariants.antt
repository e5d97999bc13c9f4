use Rattle.std.proofs.Common.{◌≡◌, length}
use Rattle.irq_model.specs.Places.{last_of}
use Rattle.plain_next.specs.Passes.{passes}
use Rattle.plain_next.proofs.places.last_of.Given as goal

abbrev pub invariant-loop-e : goal.invariant-loop-e
invariant-loop-e l = last_of (passes l.test) l.past ≡ last_of (passes l.test) l.rest

abbrev pub decreases-loop-e : goal.decreases-loop-e
decreases-loop-e l = length l.rest
