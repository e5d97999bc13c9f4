use Rattle.std.proofs.Common.{sym, ap, ◌∙◌, Result}
use Rattle.irq_line.specs.declared.answers.StepRefused.{StepRefused}
use Rattle.workers.specs.declared.job.Work.{Work}
use Rattle.workers.specs.Seen.{JobSeen}
use Rattle.workers.specs.Terms.{terms_of}
use Rattle.workers.proofs.Sweeping.{goes_on}
use Rattle.workers.proofs.job.Job.go_on.Goals as goal

pub returns : goal.returns
returns g c =
    let e = c.make_attempts-end.ensures in
    let before = ap (λ (j : JobSeen). j.end) c.self.view_is in
    goes_on (terms_of g.L.IrqLine.seen g.L.IrqLine.may_want (g.H.SharedHandler.gave c.args.handlers.now)) c.args.board.now c.args.lines.now c.args.self.now
    c.make_attempts-end.new.self _ c.in_ok-before.before c.make_attempts-end.result (sym before ∙ c.in_ok-before.was) e.works e.end e.room e.counted
    (ap (λ (j : JobSeen). record j { end = c.with_earlier-self-inside.result }) c.self-2.view_is
    ∙ ap (λ (l : Result Work StepRefused). record c.make_attempts-end.new.self { end = l }) c.with_earlier-self-inside.ensures)
