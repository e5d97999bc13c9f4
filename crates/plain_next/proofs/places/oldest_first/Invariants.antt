use Rattle.std.proofs.Common.{◌≡◌, drop, filter, reverse}
use Rattle.plain_next.specs.Passes.{passes}
use Rattle.plain_next.proofs.places.oldest_first.Given as goal

abbrev pub invariant-loop-i : goal.invariant-loop-i
invariant-loop-i l = l.entries.items ≡ reverse (filter (passes l.test) (drop l.i l.past))
