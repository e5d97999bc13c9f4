use Rattle.log_check.proofs.WholeLog.{AllDue}
use Rattle.log_check.proofs.checking.verdict_of.Given as goal

-- no judge so far has met an entry that wasn't due
abbrev pub invariant-loop-i : goal.invariant-loop-i
invariant-loop-i g l = AllDue l.board l.judges l.i
