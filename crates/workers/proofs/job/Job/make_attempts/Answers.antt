use Rattle.std.proofs.Common.{Option, Ok, refl, sym, ap, subst, arith}
use Rattle.irq_base.specs.declared.entries.Entry.{Entry}
use Rattle.workers.specs.Grown.{made_by}
use Rattle.workers.specs.Room.{RoomAfter, room_of_posts}
use Rattle.workers.specs.Seen.{JobSeen}
use Rattle.workers.specs.Shifts.{WorksOn}
use Rattle.workers.specs.Terms.{terms_of}
use Rattle.workers.proofs.Rooms.{counted_more}
use Rattle.workers.proofs.Shifting.{works_first, works_left, works_more}
use Rattle.workers.proofs.job.Job.make_attempts.Goals as goal

pub loop-steps-init : goal.loop-steps-init
loop-steps-init g c = record {
  works = works_first c.args.board.now c.args.lines.now c.args.self.now c.requires.job;
  room = omega arith;
  made = omega arith;
  none = λ zero. refl;
  less = λ some. omega (arith, some);
  more = λ some. omega (arith, some);
  counted = refl;
  left = c.requires.left;
}

pub returns-in-None-clause-works : goal.returns-in-None-clause-works
returns-in-None-clause-works g c =
    works_more c.args.board.now c.args.lines.now c.args.self.now c.loop-steps.self c.attempt_at_gate.new.self
    c.loop-steps.invariant.works c.attempt_at_gate.ensures.works

pub returns-in-None-2-clause-works : goal.returns-in-None-2-clause-works
returns-in-None-2-clause-works g c =
    works_more c.args.board.now c.args.lines.now c.args.self.now c.loop-steps.self c.attempt_at_gate.new.self
    c.loop-steps.invariant.works c.attempt_at_gate.ensures.works

pub returns-in_err-entry-clause-works : goal.returns-in_err-entry-clause-works
returns-in_err-entry-clause-works g c =
    works_more c.args.board.now c.args.lines.now c.args.self.now c.loop-steps.self c.attempt_at_gate.new.self
    c.loop-steps.invariant.works c.attempt_at_gate.ensures.works

pub returns-in-Some-clause-works : goal.returns-in-Some-clause-works
returns-in-Some-clause-works g c =
    let terms = terms_of g.L.IrqLine.seen g.L.IrqLine.may_want (g.H.SharedHandler.gave c.args.handlers.now) in
    subst (λ (s : JobSeen). WorksOn terms c.args.board.now c.args.lines.now c.args.self.now s) (sym c.pauses_after.ensures.counts)
    (works_left c.args.board.now c.args.lines.now c.attempt_at_gate.new.self _ terms c.args.self.now
    (works_more c.args.board.now c.args.lines.now c.args.self.now c.loop-steps.self c.attempt_at_gate.new.self
    c.loop-steps.invariant.works c.attempt_at_gate.ensures.works))

pub returns-in-Some-clause-counted : goal.returns-in-Some-clause-counted
returns-in-Some-clause-counted g c =
    counted_more c.args.self.now c.loop-steps.self c.attempt_at_gate.new.self c.pauses_after.new.self c.in-Some.entry c.loop-steps.invariant.counted
    c.loop-steps.invariant.left
    (subst (λ (o : Option Entry). RoomAfter (Ok o) c.loop-steps.self c.attempt_at_gate.new.self) c.in-Some.is c.in_ok-entry.ensures.room)
    c.pauses_after.ensures.counts

pub loop-steps-preserved : goal.loop-steps-preserved
loop-steps-preserved g c =
    let terms = terms_of g.L.IrqLine.seen g.L.IrqLine.may_want (g.H.SharedHandler.gave c.args.handlers.now) in
    let same = c.pauses_after.ensures.counts in
    let after = subst (λ (o : Option Entry). RoomAfter (Ok o) c.loop-steps.self c.attempt_at_gate.new.self) c.in-Some.is
    c.in_ok-entry.ensures.room in
    let room = after.0 in
    let made = after.1 in
    let room_now = ap (λ (s : JobSeen). room_of_posts s.posts) same in
    let made_now = ap (λ (s : JobSeen). made_by s.posts) same in
    let room_before = c.loop-steps.invariant.room in
    let made_before = c.loop-steps.invariant.made in
    record {
      works = subst (λ (s : JobSeen). WorksOn terms c.args.board.now c.args.lines.now c.args.self.now s) (sym same)
          (works_left c.args.board.now c.args.lines.now c.attempt_at_gate.new.self _ terms c.args.self.now
          (works_more c.args.board.now c.args.lines.now c.args.self.now c.loop-steps.self c.attempt_at_gate.new.self
          c.loop-steps.invariant.works c.attempt_at_gate.ensures.works));
      room = omega (arith, room, room_now, room_before);
      made = omega (arith, made, made_now, made_before);
      none = λ zero. absurd (omega (arith, zero));
      less = λ some. omega (arith, room, room_now, room_before);
      more = λ some. omega (arith, made, made_now, made_before);
      counted = counted_more c.args.self.now c.loop-steps.self c.attempt_at_gate.new.self c.pauses_after.new.self c.in-Some.entry
          c.loop-steps.invariant.counted c.loop-steps.invariant.left after same;
      left = c.pauses_after.ensures.goes_on c.if-pauses_after.false;
    }
