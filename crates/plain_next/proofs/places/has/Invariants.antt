use Rattle.std.proofs.Common.{◌≡◌, length}
use Rattle.std.specs.List.{list_any}
use Rattle.plain_next.specs.Passes.{passes}
use Rattle.plain_next.proofs.places.has.Given as goal

abbrev pub invariant-loop-e : goal.invariant-loop-e
invariant-loop-e l = list_any (passes l.test) l.past ≡ list_any (passes l.test) l.rest

abbrev pub decreases-loop-e : goal.decreases-loop-e
decreases-loop-e l = length l.rest
