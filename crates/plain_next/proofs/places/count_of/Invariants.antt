use Rattle.std.proofs.Common.{◌≡◌, ◌≤◌, ◌+◌, length}
use Rattle.irq_model.specs.Places.{count_of}
use Rattle.plain_next.specs.Passes.{passes}
use Rattle.plain_next.proofs.places.count_of.Given as goal

abbrev pub invariant-loop-e : goal.invariant-loop-e
invariant-loop-e l =
    (count_of (passes l.test) l.past ≡ l.count + count_of (passes l.test) l.rest) × (l.count + length l.rest ≤ length l.past)

abbrev pub decreases-loop-e : goal.decreases-loop-e
decreases-loop-e l = length l.rest
