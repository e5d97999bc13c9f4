use Rattle.std.proofs.Common.{◌≡◌, ℕ, Some, length, slice_get}
use Rattle.board_def.specs.Seen.{BoardSeen}
use Rattle.workers.specs.Fit.{ArePosted}
use Rattle.workers.specs.Gathers.{AreHome, Gathers}
use Rattle.workers.specs.Seen.{JobSeen}
use Rattle.workers.proofs.Gathering.{HaveCome}
use Rattle.workers.proofs.gathers.meet_all.Given as goal

abbrev pub invariant-loop-job : goal.invariant-loop-job
invariant-loop-job g l = record {
  home : AreHome l.lines l.firsts.items;
  posted : (i : ℕ) (j : JobSeen) → slice_get l.jobs.items i ≡ Some j → ArePosted l.lines j;
  gathers : (board : BoardSeen) → Gathers board l.lines l.fn.jobs.items l.fn.firsts.items → Gathers board l.lines l.jobs.items l.firsts.items;
  back : (board : BoardSeen) → Gathers board l.lines l.fn.jobs.items l.fn.firsts.items
      → HaveCome board l.fn.jobs.items l.jobs.items l.fn.firsts.items l.firsts.items;
}

abbrev pub decreases-loop-job : goal.decreases-loop-job
decreases-loop-job g l = length l.jobs.items
