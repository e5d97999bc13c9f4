use Rattle.std.proofs.Common.{◌≡◌, ℕ, ◌<◌, true, None, Some, slice_get}
use Rattle.workers.specs.Fit.{HasOneFlow}
use Rattle.workers.proofs.Rooms.{StaysSo}
use Rattle.workers.specs.Seen.{PostSeen}
use Rattle.workers.specs.Attempts.{KeepsPosts}
use Rattle.workers.specs.Terms.{terms_of}
use Rattle.workers.proofs.job.Job.attempt_cpu.Given as goal

abbrev pub invariant-loop-place : goal.invariant-loop-place
invariant-loop-place g l = record {
  keeps : KeepsPosts (terms_of g.L.IrqLine.seen g.L.IrqLine.may_want (g.H.SharedHandler.gave l.handlers)) l.lines l.fn.self l.self;
  flow : HasOneFlow l.self;
  none : l.self.flow ≡ None;
  rests : (i : ℕ) (s : PostSeen) → i < l.place → slice_get l.self.posts i ≡ Some s → s.rests ≡ true;
  room : StaysSo l.fn.self l.self;
}
