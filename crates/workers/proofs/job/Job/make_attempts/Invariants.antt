use Rattle.std.proofs.Common.{◌≡◌, ◌<◌, ◌≤◌}
use Rattle.workers.specs.Grown.{made_by}
use Rattle.workers.specs.Room.{AreCounted, room_of_posts}
use Rattle.workers.specs.Shifts.{WorksOn}
use Rattle.workers.specs.Terms.{terms_of}
use Rattle.workers.proofs.job.Job.make_attempts.Given as goal

abbrev pub invariant-loop-steps : goal.invariant-loop-steps
invariant-loop-steps g l = record {
  works : WorksOn (terms_of g.L.IrqLine.seen g.L.IrqLine.may_want (g.H.SharedHandler.gave l.handlers)) l.board l.lines l.fn.self l.self;
  room : room_of_posts l.self.posts ≤ room_of_posts l.fn.self.posts;
  made : made_by l.fn.self.posts ≤ made_by l.self.posts;
  none : l.steps ≡ 0 → made_by l.self.posts ≡ made_by l.fn.self.posts;
  less : 0 < l.steps → room_of_posts l.self.posts < room_of_posts l.fn.self.posts;
  more : 0 < l.steps → made_by l.fn.self.posts < made_by l.self.posts;
  counted : AreCounted l.fn.self l.self;
  left : 0 < l.self.left;
}
