use Rattle.std.proofs.Common.{◌≡◌, ◌++◌, take, drop}
use Rattle.irq_model.specs.Places.{since}
use Rattle.plain_next.specs.Passes.{passes}
use Rattle.plain_next.proofs.places.since.Given as goal

abbrev pub invariant-loop-i : goal.invariant-loop-i
invariant-loop-i l = since (passes l.test) l.past ≡ take l.i l.past ++ since (passes l.test) (drop l.i l.past)
