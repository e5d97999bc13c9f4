use Rattle.std.proofs.Common.{sym, ap, ◌∙◌}
use Rattle.workers.specs.Seen.{JobSeen}
use Rattle.workers.specs.Terms.{terms_of}
use Rattle.workers.proofs.Shifting.{thread_attempted, cpu_attempted, job_driven}
use Rattle.workers.proofs.job.Job.attempt.Goals as goal

pub returns-in-Thread : goal.returns-in-Thread
returns-in-Thread g c =
    thread_attempted (terms_of g.L.IrqLine.seen g.L.IrqLine.may_want (g.H.SharedHandler.gave c.args.handlers.now))
    c.args.board.now c.args.lines.now c.try_post.result
    c.args.self.now c.try_post.new.self c.requires.job
    c.in-Thread.field-0 (ap (λ (j : JobSeen). j.actor) (sym c.self.view_is) ∙ c.in-Thread.is)
    c.try_post.ensures

pub returns-in-Cpu : goal.returns-in-Cpu
returns-in-Cpu g c =
    cpu_attempted (terms_of g.L.IrqLine.seen g.L.IrqLine.may_want (g.H.SharedHandler.gave c.args.handlers.now))
    c.args.board.now c.args.lines.now c.attempt_cpu.result
    c.args.self.now c.attempt_cpu.new.self c.requires.job
    c.in-Cpu.field-0 (ap (λ (j : JobSeen). j.actor) (sym c.self.view_is) ∙ c.in-Cpu.is) c.attempt_cpu.ensures

pub returns-in-Driver : goal.returns-in-Driver
returns-in-Driver g c =
    job_driven (terms_of g.L.IrqLine.seen g.L.IrqLine.may_want (g.H.SharedHandler.gave c.args.handlers.now))
    c.args.board.now c.args.lines.now c.attempt_driver.result
    c.args.self.now c.attempt_driver.new.self
    c.requires.job c.in-Driver.driver (ap (λ (j : JobSeen). j.actor) (sym c.self.view_is) ∙ c.in-Driver.is)
    c.attempt_driver.ensures
