use Rattle.std.proofs.Common.{length}
use Rattle.log_check.proofs.WholeLog.{IsAt}
use Rattle.log_check.proofs.checking.check_log.Given as goal

-- the rows so far are judged
abbrev pub invariant-loop-rest : goal.invariant-loop-rest
invariant-loop-rest g l = IsAt l.board l.log l.rest l.row l.judges.items

abbrev pub decreases-loop-rest : goal.decreases-loop-rest
decreases-loop-rest g l = length l.rest
