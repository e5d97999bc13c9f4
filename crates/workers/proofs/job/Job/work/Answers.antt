use Rattle.std.proofs.Common.{sym, ap, subst, arith}
use Rattle.workers.specs.Room.{AreCounted, RoomAfterPart}
use Rattle.workers.specs.Seen.{JobSeen}
use Rattle.workers.specs.Shifts.{WorksOn}
use Rattle.workers.specs.Terms.{terms_of}
use Rattle.workers.specs.Fit.{IsJob}
use Rattle.workers.proofs.Rooms.{room_renewed}
use Rattle.workers.proofs.Shifting.{ended_at, job_left, works_renewed}
use Rattle.workers.proofs.job.Job.work.Goals as goal

pub make_attempts-self-inside-requires-clause-job : goal.make_attempts-self-inside-requires-clause-job
make_attempts-self-inside-requires-clause-job g c =
    subst (λ (s : JobSeen). IsJob c.args.board.now c.args.lines.now s) (sym c.renew.ensures)
    (job_left c.args.board.now c.args.lines.now c.args.self.now c.args.left c.requires.job)

pub returns : goal.returns
returns g c =
    let terms = terms_of g.L.IrqLine.seen g.L.IrqLine.may_want (g.H.SharedHandler.gave c.args.handlers.now) in
    let e = c.make_attempts-self-inside.ensures in
    let new = c.make_attempts-self-inside.new.self in
    let most = c.requires.left.1 in
    let counted : AreCounted (record c.args.self.now { left = c.args.left }) new = subst (λ (s : JobSeen). AreCounted s new) c.renew.ensures e.counted in
    ended_at c.args.board.now c.args.lines.now new c.make_attempts-self-inside.result terms c.args.self.now
    (record {
      actor = c.self.inside.actor;
      first = c.self.inside.first;
      posts = c.self.inside.posts.items;
      flow = c.self.inside.flow;
      at = c.self.inside.at;
      left = c.self.inside.left;
      end = c.make_attempts-self-inside.result;
    })
    (works_renewed c.args.board.now c.args.lines.now c.args.self.now c.args.left terms new
    (subst (λ (s : JobSeen). WorksOn terms c.args.board.now c.args.lines.now s new) c.renew.ensures e.works))
    e.end
    (room_renewed c.make_attempts-self-inside.result c.args.self.now new c.args.left
    (subst (λ (s : JobSeen). RoomAfterPart c.make_attempts-self-inside.result s new) c.renew.ensures e.room))
    (omega (arith, counted, most))
    (ap (λ (j : JobSeen). record j { end = c.make_attempts-self-inside.result }) c.self.view_is)
