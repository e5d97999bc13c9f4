use Rattle.workers.specs.Terms.{terms_of}
use Rattle.workers.specs.Shifts.{KeepsJobs}
use Rattle.workers.proofs.sweeps.work_on.Given as goal

abbrev pub invariant-loop : goal.invariant-loop
invariant-loop g l = KeepsJobs (terms_of g.L.IrqLine.seen g.L.IrqLine.may_want (g.H.SharedHandler.gave l.handlers)) l.board l.lines l.fn.jobs l.jobs
