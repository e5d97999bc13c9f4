use Rattle.std.proofs.Common.{Option, Some, Result, Ok, Err, length, refl, sym, ap, arith, ◌∙◌, subst}
use Rattle.irq_base.specs.declared.entries.Entry.{Entry}
use Rattle.irq_line.specs.declared.answers.StepRefused.{StepRefused}
use Rattle.workers.specs.Seen.{JobSeen}
use Rattle.workers.specs.Attempts.{AttemptsCpu, StepsCpu}
use Rattle.workers.specs.Terms.{terms_of}
use Rattle.workers.proofs.Flowing.{keeps_on, rests_more, cpu_in_flow, cpu_after, cpu_done}
use Rattle.workers.proofs.Handing.{handed_on}
use Rattle.workers.proofs.Rooms.{stays_on}
use Rattle.workers.proofs.job.Job.attempt_cpu.Goals as goal

pub returns-in-Some : goal.returns-in-Some
returns-in-Some g c =
    cpu_in_flow (terms_of g.L.IrqLine.seen g.L.IrqLine.may_want (g.H.SharedHandler.gave c.args.handlers.now)) c.args.lines.now c.step_cpu.result
    c.args.self.now c.step_cpu.new.self c.in-Some.place (ap (λ (j : JobSeen). j.flow) (sym c.self.view_is) ∙ c.in-Some.is) c.step_cpu.ensures

pub loop-place-preserved : goal.loop-place-preserved
loop-place-preserved g c =
    let none = ap Ok c.in_default-3.is in
    let s = c.in_ok-entry-2.ensures in
    let old = c.loop-place.invariant in
    record {
      keeps = keeps_on c.args.lines.now c.args.self.now c.loop-place.self c.step_cpu-in-loop-place.new.self old.keeps s.keeps;
      flow = s.flow;
      none = s.still none ∙ old.none;
      room = stays_on (Ok c.in_ok-entry-2.field-0) c.args.self.now c.loop-place.self c.step_cpu-in-loop-place.new.self none old.room s.room;
      rests = rests_more (terms_of g.L.IrqLine.seen g.L.IrqLine.may_want (g.H.SharedHandler.gave c.args.handlers.now)) c.args.lines.now c.loop-place.place
          (Ok c.in_ok-entry-2.field-0) c.loop-place.self c.step_cpu-in-loop-place.new.self none s old.rests;
    }

pub returns-in-Some-3 : goal.returns-in-Some-3
returns-in-Some-3 g c =
    cpu_after (terms_of g.L.IrqLine.seen g.L.IrqLine.may_want (g.H.SharedHandler.gave c.args.handlers.now))
    c.args.lines.now (Ok (Some c.in-Some-3.entry)) c.args.self.now c.loop-place.self
    c.step_cpu-in-loop-place.new.self _ c.loop-place.place c.loop-place.invariant.keeps c.loop-place.invariant.room
    (subst (λ (o : Option Entry). StepsCpu (terms_of g.L.IrqLine.seen g.L.IrqLine.may_want
    (g.H.SharedHandler.gave c.args.handlers.now)) c.args.lines.now c.loop-place.place (Ok o) c.loop-place.self
    c.step_cpu-in-loop-place.new.self) c.in-Some-3.is c.in_ok-entry-2.ensures) (λ is. cc) c.self-in-loop-place-2.view_is

pub returns-in_err-entry-2 : goal.returns-in_err-entry-2
returns-in_err-entry-2 g c =
    subst (λ (tried : Result (Option Entry) StepRefused). AttemptsCpu
    (terms_of g.L.IrqLine.seen g.L.IrqLine.may_want (g.H.SharedHandler.gave c.args.handlers.now)) c.args.lines.now
    tried c.args.self.now
    c.step_cpu-in-loop-place.new.self) (sym (handed_on c.from_residual-in_err-entry-2.ensures.1))
    (cpu_after (terms_of g.L.IrqLine.seen g.L.IrqLine.may_want (g.H.SharedHandler.gave c.args.handlers.now))
    c.args.lines.now (Err c.in_err-entry-2.field-0.0) c.args.self.now c.loop-place.self
    c.step_cpu-in-loop-place.new.self _ c.loop-place.place c.loop-place.invariant.keeps c.loop-place.invariant.room
    c.in_err-entry-2.ensures (λ is. cc) refl)

pub returns : goal.returns
returns g c =
    let old = c.loop-place.invariant in
    cpu_done (terms_of g.L.IrqLine.seen g.L.IrqLine.may_want (g.H.SharedHandler.gave c.args.handlers.now)) c.args.lines.now c.args.self.now c.loop-place.self
    c.loop-place.place old.keeps old.flow old.none old.rests
    (let a = c.try_last.ensures.keeps.as_many in let b = old.keeps.as_many in
    let v = ap (λ (j : JobSeen). length j.posts) c.self-2.view_is in
    omega (arith, a, b, v, c.len-place-end.ensures, c.loop-place-test.false)) old.room
