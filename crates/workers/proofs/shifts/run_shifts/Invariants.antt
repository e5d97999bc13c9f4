use Rattle.std.proofs.Common.{◌≡◌, ◌≤◌}
use Rattle.workers.specs.Fit.{Fit}
use Rattle.workers.specs.Grown.{JobsGrow}
use Rattle.workers.specs.Room.{room_of_jobs}
use Rattle.workers.proofs.shifts.run_shifts.Given as goal

abbrev pub invariant-loop-used_up : goal.invariant-loop-used_up
invariant-loop-used_up g l = record {
  fit : Fit l.lines l.jobs;
  same : l.jobs.board ≡ l.fn.jobs.board;
  grew : JobsGrow (g.H.SharedHandler.gave l.handlers) l.fn.jobs.jobs l.jobs.jobs;
  firsts : l.jobs.firsts ≡ l.fn.jobs.firsts;
  room : room_of_jobs l.jobs.jobs ≤ room_of_jobs l.fn.jobs.jobs;
}

abbrev pub decreases-loop-used_up : goal.decreases-loop-used_up
decreases-loop-used_up g l = room_of_jobs l.jobs.jobs
