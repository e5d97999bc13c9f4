use Rattle.std.proofs.Common.{◌≡◌, List, ◌++◌, take, drop, length, subst, arith, Result, Ok}
use Rattle.irq_line.specs.declared.answers.StepRefused.{StepRefused}
use Rattle.workers.specs.declared.job.Work.{Work}
use Rattle.workers.specs.declared.job.Work.TheVariants as works
use Rattle.workers.specs.Shifts.{SumsUp}
use Rattle.workers.specs.Seen.{JobSeen}
use Rattle.workers.specs.Terms.{terms_of}
use Rattle.workers.proofs.Shifting.{OneShift, one_shift, shift_may, shift_fit, shift_ended, shift_room, shift_busy, shift_grew, shift_idle, whole_again}
use Rattle.workers.proofs.jobs.Jobs.one_shift.Given as given
use Rattle.workers.proofs.jobs.Jobs.one_shift.Goals as goal
use Rattle.workers.proofs.jobs.Jobs.one_shift.Goals.{After-shift}

pub shift-requires-clause-jobs : goal.shift-requires-clause-jobs
shift-requires-clause-jobs g c = λ κs lives k d less. shift_may c.requires c.self.view_is c.as_mut_slice-jobs.ensures.value k d less

-- what the shift leaves, once the slice is the list again
shifted : (g : given.Over) (c : After-shift g) → OneShift
    (terms_of g.L.IrqLine.seen g.L.IrqLine.may_want (g.H.SharedHandler.gave c.args.handlers.now)) c.args.lines.now
    c.args.self.now (record {
      board = c.self.inside.board.now;
      jobs = take c.self.inside.jobs.len (c.shift.new.jobs ++ drop (length c.shift.new.jobs) c.self.inside.jobs.items);
      firsts = c.self.inside.firsts.items;
    })
shifted g c =
    let long : length c.shift.new.jobs ≡ length c.as_mut_slice-jobs.result.now = c.shift.auto.jobs in
    one_shift c.requires c.self.view_is c.as_mut_slice-jobs.ensures.value
    (terms_of g.L.IrqLine.seen g.L.IrqLine.may_want (g.H.SharedHandler.gave c.args.handlers.now)) long
    c.shift.ensures
    (whole_again c.self.inside.jobs.len c.shift.new.jobs c.self.inside.jobs.items (let e = c.as_mut_slice-jobs.ensures.len in omega (arith, long, e)))

pub returns-clause-fit : goal.returns-clause-fit
returns-clause-fit g c = shift_fit (shifted g (goal.at.returns-clause-fit g c).After-shift)

pub returns-clause-ends : goal.returns-clause-ends
returns-clause-ends g c = shift_ended (shifted g (goal.at.returns-clause-ends g c).After-shift)

pub returns-clause-room : goal.returns-clause-room
returns-clause-room g c = shift_room (shifted g (goal.at.returns-clause-room g c).After-shift)

pub returns-clause-busy : goal.returns-clause-busy
returns-clause-busy g c = λ is.
    shift_busy (shifted g (goal.at.returns-clause-busy g c).After-shift)
    (subst (λ (js : List JobSeen). SumsUp js (length js) (Ok works.Busy)) c.as_slice.ensures.value
    (subst (λ (l : Result Work StepRefused). SumsUp c.as_slice.result.now (length c.as_slice.result.now) l) is c.end_of_all.ensures))

pub returns-clause-grew : goal.returns-clause-grew
returns-clause-grew g c = shift_grew (shifted g (goal.at.returns-clause-grew g c).After-shift)

pub returns-clause-idle : goal.returns-clause-idle
returns-clause-idle g c = λ is.
    shift_idle (shifted g (goal.at.returns-clause-idle g c).After-shift)
    (subst (λ (js : List JobSeen). SumsUp js (length js) (Ok works.Idle)) c.as_slice.ensures.value
    (subst (λ (l : Result Work StepRefused). SumsUp c.as_slice.result.now (length c.as_slice.result.now) l) is c.end_of_all.ensures))
