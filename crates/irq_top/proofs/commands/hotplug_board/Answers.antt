use Rattle.board_def.specs.Seen.{BoardSeen}
use Rattle.board_words.specs.declared.faults.FaultKind.TheVariants as faults
use Rattle.callbacks.specs.Heard.{Heard}
use Rattle.hotplug_plan.specs.Planned.{IsForHotplug}
use Rattle.hotplug_play.specs.Played.{HotplugsBoard, planned_after}
use Rattle.irq_play.specs.Played.{TellsStep}
use Rattle.irq_top.proofs.Outcomes.{ends_as_played, keeps_as_played, keeps_unfit, tells_as_played}
use Rattle.irq_top.specs.Commands.{CallsNobody}
use Rattle.notifiers.specs.Told.{Told}
use Rattle.irq_top.proofs.commands.hotplug_board.Goals as goal

pub returns-in-Ok-clause-plays : goal.returns-in-Ok-clause-plays
returns-in-Ok-clause-plays g c =
    ends_as_played (λ (b : BoardSeen). IsForHotplug b → ⊥)
    (CallsNobody (λ runs. Heard g.H.Handler.hears runs c.args.handlers.now c.hotplug_and_print.new.handlers)
    (λ placings. Told g.N.Notifier.tells placings c.args.notify.now c.hotplug_and_print.new.notify)) faults.NotForHotplug
    (λ (b : BoardSeen). HotplugsBoard b c.args.vectors c.args.events.now
    (λ runs. Heard g.H.Handler.hears runs c.args.handlers.now c.hotplug_and_print.new.handlers)
    (λ placings. Told g.N.Notifier.tells placings c.args.notify.now c.hotplug_and_print.new.notify)) c.args.board (g.O.Sink.written c.args.out.now)
    (g.O.Sink.written c.hotplug_and_print.new.out) c.in-Ok.played.reports.reports c.of_play.result.reports.reports
    c.in-Ok.played.end c.of_play.result.ending c.of_play.ensures.ending c.of_play.ensures.reports c.in-Ok.ensures.plays

pub returns-in-Ok-clause-wanted : goal.returns-in-Ok-clause-wanted
returns-in-Ok-clause-wanted g c =
    tells_as_played (λ (b : BoardSeen). TellsStep g.M.Line.IrqLine.may_want (planned_after b c.args.vectors c.args.events.now)) c.args.board
    c.in-Ok.played.reports.reports c.of_play.result.reports.reports
    c.in-Ok.played.end c.of_play.result.ending c.of_play.ensures.ending c.of_play.ensures.reports c.in-Ok.ensures.step

pub returns-in-Ok-clause-keeps : goal.returns-in-Ok-clause-keeps
returns-in-Ok-clause-keeps g c =
    keeps_as_played c.in-Ok.played.end c.of_play.result.ending c.of_play.ensures.ending
    c.in-Ok.ensures.emptied c.in-Ok.ensures.write_fault c.in-Ok.ensures.silent

pub returns-in-Err-clause-keeps : goal.returns-in-Err-clause-keeps
returns-in-Err-clause-keeps g c =
    keeps_unfit g.O.Sink.kept g.O.Sink.faults c.args.out.now c.hotplug_and_print.new.out _ c.refused.result.ending
    c.refused.ensures.ending c.in-Err.ensures.quiet
