use Rattle.std.proofs.Common.{◌≡◌, Some, slice_get, sym, ap, subst, ◌+◌, ◌∙◌, Result}
use Rattle.irq_line.specs.declared.answers.StepRefused.{StepRefused}
use Rattle.workers.specs.declared.job.Work.{Work}
use Rattle.workers.specs.Shifts.{SumsUp}
use Rattle.workers.specs.Seen.{JobSeen}
use Rattle.workers.proofs.Lists.{there_or}
use Rattle.workers.proofs.Shifting.{sums_more}
use Rattle.workers.proofs.shifts.end_of_all.Goals as goal

pub loop-i-preserved : goal.loop-i-preserved
loop-i-preserved g c =
    let at : slice_get c.args.jobs.now c.loop-i.i ≡ Some c.index-jobs-i.result
    = there_or c.args.jobs.now c.loop-i.i c.index-jobs-i.result c.loop-i-test.true
    ∙ ap (λ (j : JobSeen). Some j) (sym c.index-jobs-i.is) in
    let its = ap (λ (j : JobSeen). j.end) (sym c.job.view_is) in
    subst (λ (l : Result Work StepRefused). SumsUp c.args.jobs.now (c.loop-i.i + 1) l) (sym c.worse-all.ensures)
    (sums_more c.args.jobs.now c.loop-i.i c.index-jobs-i.result at c.loop-i.all c.job.inside.end its c.loop-i.invariant)
