use Rattle.std.proofs.Common.{length}
use Rattle.workers.proofs.Meeting.{IsMeeting}
use Rattle.workers.proofs.gathers.meet_job.Given as goal

abbrev pub invariant-loop-post : goal.invariant-loop-post
invariant-loop-post g l = IsMeeting l.lines l.fn.job l.fn.firsts.items l.firsts.items l.posts.items

abbrev pub decreases-loop-post : goal.decreases-loop-post
decreases-loop-post g l = length l.posts.items
