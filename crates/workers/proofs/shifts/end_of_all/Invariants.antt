use Rattle.workers.specs.Shifts.{SumsUp}
use Rattle.workers.proofs.shifts.end_of_all.Given as goal

abbrev pub invariant-loop-i : goal.invariant-loop-i
invariant-loop-i g l = SumsUp l.jobs l.i l.all
