use Rattle.std.proofs.Common.{length}
use Rattle.log_check.proofs.Eights.{AreLeft}
use Rattle.log_check.proofs.comparing.are_equal.Given as goal

abbrev pub invariant-loop-eight_a : goal.invariant-loop-eight_a
invariant-loop-eight_a l = AreLeft l.fn.a l.fn.b l.rest_a l.rest_b

abbrev pub decreases-loop-eight_a : goal.decreases-loop-eight_a
decreases-loop-eight_a l = length l.rest_a
