use Rattle.std.proofs.Common.{Result, Ok, length, sym, subst, arith, ◌∙◌}
use Rattle.irq_line.specs.declared.answers.StepRefused.{StepRefused}
use Rattle.workers.specs.Shifts.{Ends, SumsUp}
use Rattle.workers.specs.declared.job.Work.{Work}
use Rattle.workers.proofs.Handing.{handed_on}
use Rattle.workers.proofs.Growing.{jobs_more}
use Rattle.workers.proofs.Shifting.{quiet, refused_for}
use Rattle.workers.specs.Terms.{terms_of}
use Rattle.workers.proofs.shifts.run_shifts.Goals as goal

pub returns-in-Idle-clause-end : goal.returns-in-Idle-clause-end
returns-in-Idle-clause-end g c =
    quiet (terms_of g.L.IrqLine.seen g.L.IrqLine.may_want (g.H.SharedHandler.gave c.args.handlers.now))
    c.one_shift.new.self c.one_shift.ensures.ends
    (subst (λ (w : Work). SumsUp c.one_shift.new.self.jobs (length c.one_shift.new.self.jobs) (Ok w)) c.in-Idle.is c.in_ok-one_shift.ensures.all)

pub returns-in_err-one_shift-clause-end : goal.returns-in_err-one_shift-clause-end
returns-in_err-one_shift-clause-end g c =
    subst (λ (end : Result Unit StepRefused). Ends (terms_of g.L.IrqLine.seen g.L.IrqLine.may_want (g.H.SharedHandler.gave c.args.handlers.now))
    c.one_shift.new.self end) (sym (handed_on c.from_residual.ensures.1))
    (refused_for (terms_of g.L.IrqLine.seen g.L.IrqLine.may_want (g.H.SharedHandler.gave c.args.handlers.now))
    c.one_shift.new.self c.one_shift.ensures.ends c.in_err-one_shift.field-0.0 c.in_err-one_shift.ensures.all)

pub returns-in-Idle-clause-grew : goal.returns-in-Idle-clause-grew
returns-in-Idle-clause-grew g c =
    jobs_more c.args.jobs.now.jobs c.loop-used_up.jobs.jobs c.one_shift.new.self.jobs
    c.loop-used_up.invariant.grew c.one_shift.ensures.grew

pub returns-in_err-one_shift-clause-grew : goal.returns-in_err-one_shift-clause-grew
returns-in_err-one_shift-clause-grew g c =
    jobs_more c.args.jobs.now.jobs c.loop-used_up.jobs.jobs c.one_shift.new.self.jobs
    c.loop-used_up.invariant.grew c.one_shift.ensures.grew

pub loop-used_up-preserved : goal.loop-used_up-preserved
loop-used_up-preserved g c =
    let room = c.one_shift.ensures.room in
    let before = c.loop-used_up.invariant.room in
    record {
      fit = c.one_shift.ensures.fit;
      same = c.one_shift.ensures.board ∙ c.loop-used_up.invariant.same;
      grew = jobs_more c.args.jobs.now.jobs c.loop-used_up.jobs.jobs c.one_shift.new.self.jobs c.loop-used_up.invariant.grew c.one_shift.ensures.grew;
      firsts = c.one_shift.ensures.firsts ∙ c.loop-used_up.invariant.firsts;
      room = omega (arith, room, before);
    }
