use Rattle.std.proofs.Common.{◌≡◌, length}
use Rattle.irq_model.specs.Rounds.{first_left}
use Rattle.plain_next.proofs.rounds.first_left.Given as goal

abbrev pub invariant-loop-d : goal.invariant-loop-d
invariant-loop-d l = first_left l.def l.past l.linked ≡ first_left l.def l.past l.rest

abbrev pub decreases-loop-d : goal.decreases-loop-d
decreases-loop-d l = length l.rest
