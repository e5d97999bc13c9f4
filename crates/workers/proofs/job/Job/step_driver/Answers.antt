use Rattle.std.proofs.Common.{◌≡◌, ◌+◌, Option, Some, Result, Ok, refl, sym, ap, ◌∙◌, subst}
use Rattle.irq_base.specs.declared.entries.Entry.{Entry}
use Rattle.irq_line.specs.declared.answers.StepRefused.{StepRefused}
use Rattle.workers.specs.Seen.{JobSeen}
use Rattle.workers.specs.Attempts.{AttemptsDriver}
use Rattle.workers.specs.Terms.{terms_of}
use Rattle.workers.proofs.Driven.{driver_rests, driver_moved}
use Rattle.workers.proofs.Handing.{handed_on}
use Rattle.workers.proofs.job.Job.step_driver.Goals as goal

pub returns-in_default : goal.returns-in_default
returns-in_default g c =
    driver_rests c.requires.boards c.requires.driven c.is_board.ensures.board c.requires.call refl c.requires.place c.in_ok-moved.ensures
    (λ e is. let same : c.in_ok-moved.moved ≡ Some e = cc in c.in_default.not-Some e same)

pub returns-in_err-moved : goal.returns-in_err-moved
returns-in_err-moved g c =
    subst (λ (tried : Result (Option Entry) StepRefused). AttemptsDriver
    (terms_of g.L.IrqLine.seen g.L.IrqLine.may_want (g.H.SharedHandler.gave c.args.handlers.now)) c.args.board.now
    c.args.lines.now c.args.call.driver tried c.args.self.now c.try_post.new.self)
    (sym (handed_on c.from_residual.ensures.1))
    (driver_rests c.requires.boards c.requires.driven c.is_board.ensures.board c.requires.call refl c.requires.place c.in_err-moved.ensures (λ e is. cc))

pub returns-then-completes : goal.returns-then-completes
returns-then-completes g c =
    driver_moved c.requires.boards c.requires.driven c.is_board.ensures.board c.requires.call refl c.requires.place c.in_ok-moved.ensures
    (ap Ok c.in-Some.is) (sym c.completes.ensures ∙ c.if-completes.true) (ap (λ (x : JobSeen). record x { at = x.at + 1 }) c.self.view_is)

pub returns-else-completes : goal.returns-else-completes
returns-else-completes g c =
    driver_moved c.requires.boards c.requires.driven c.is_board.ensures.board c.requires.call refl c.requires.place c.in_ok-moved.ensures
    (ap Ok c.in-Some.is) (sym c.completes.ensures ∙ c.if-completes.false) refl
