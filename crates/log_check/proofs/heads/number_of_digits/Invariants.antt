use Rattle.std.proofs.Common.{length}
use Rattle.log_check.proofs.Numbers.{AreRead}
use Rattle.log_check.proofs.heads.number_of_digits.Given as goal

-- of whatever number the bytes begin with, the value so far and the bytes left are the rest
abbrev pub invariant-loop-byte : goal.invariant-loop-byte
invariant-loop-byte l = AreRead l.bytes l.value l.rest

abbrev pub decreases-loop-byte : goal.decreases-loop-byte
decreases-loop-byte l = length l.rest
