use Rattle.std.proofs.Common.{◌≡◌, IfOk, Err, List, true, refl, subst}
use Rattle.play_report.specs.declared.failing.PlayFailed.TheVariants as plays
use Rattle.irq_base.specs.declared.devices.Run.{Run}
use Rattle.board_gen.specs.Generated.{generated}
use Rattle.callbacks.specs.Heard.{Heard}
use Rattle.irq_top.specs.Commands.{PlaysAs}
use Rattle.irq_top.proofs.Outcomes.{keeps_without_memory}
use Rattle.irq_top.proofs.commands.play_generated.Goals as goal

pub returns-in-Ok-clause-generates : goal.returns-in-Ok-clause-generates
returns-in-Ok-clause-generates g c =
    let made = subst (λ told. IfOk told (λ b. b ≡ generated c.args.n)) c.in-Ok.is c.generate.ensures in
    let heard = λ (runs : List Run). Heard g.H.Handler.hears runs c.args.handlers.now c.play.new.handlers in
    subst (λ b. PlaysAs heard true b c.play.result.reports.reports (g.O.Sink.written c.args.out.now) (g.O.Sink.written c.play.new.out)
    c.play.result.ending)
    made c.play.ensures.does

pub returns-in-Err-clause-generates : goal.returns-in-Err-clause-generates
returns-in-Err-clause-generates g c =
    (Err plays.NoMemory, c.without_reports.ensures.ending, (c.without_reports.ensures.reports, refl))

pub returns-in-Err-clause-keeps : goal.returns-in-Err-clause-keeps
returns-in-Err-clause-keeps g c =
    keeps_without_memory g.O.Sink.kept g.O.Sink.faults c.args.out.now c.without_reports.result.ending c.without_reports.ensures.ending
