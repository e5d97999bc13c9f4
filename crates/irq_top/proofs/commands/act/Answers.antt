use Rattle.std.proofs.Common.{List, [], refl, sym, subst}
use Rattle.board_def.specs.Seen.{BoardSeen}
use Rattle.callbacks.specs.Heard.{Heard}
use Rattle.hotplug_play.specs.Played.{planned_after}
use Rattle.irq_base.specs.declared.devices.Run.{Run}
use Rattle.irq_base.specs.declared.numbers.LineNo.{LineNo}
use Rattle.irq_hotplug.specs.declared.events.Event.{Event}
use Rattle.irq_play.specs.Played.{TellsStep}
use Rattle.irq_top.specs.Commands.{CallsNobody, Does, HotplugsAs, SleepsAs, TakesBoard, TellsTaken, TellsWanted}
use Rattle.irq_words.specs.declared.Command.{Command}
use Rattle.notifiers.specs.Told.{Notice, Told}
use Rattle.sleep_play.specs.Played as sleeps
use Rattle.irq_top.proofs.commands.act.Goals as goal

pub returns-in-Hotplug-clause-does : goal.returns-in-Hotplug-clause-does
returns-in-Hotplug-clause-does g c =
    let heard : List Run → Type 0 = λ runs. Heard g.H.Handler.hears runs c.args.handlers.now c.hotplug.new.handlers in
    let placed : List Notice → Type 0 = λ placings. Told g.N.Notifier.tells placings c.args.notify.now c.hotplug.new.notify in
    subst (λ (asked : Command). Does heard (g.D.SharedHandler.gave c.args.shared.now) placed asked (g.S.Source.left c.args.src.now)
    (g.S.Source.left c.hotplug.new.src) c.hotplug.result.reports.reports (g.O.Sink.written c.args.out.now)
    (g.O.Sink.written c.hotplug.new.out) c.hotplug.result.ending) (sym c.in-Hotplug.is)
    (subst (λ (events : List Event). TakesBoard (CallsNobody heard placed) (HotplugsAs heard placed c.in-Hotplug.vectors events)
    (g.S.Source.left c.args.src.now) (g.S.Source.left c.hotplug.new.src) c.hotplug.result.reports.reports
    (g.O.Sink.written c.args.out.now) (g.O.Sink.written c.hotplug.new.out) c.hotplug.result.ending)
    c.as_slice-events.ensures.value c.hotplug.ensures.takes)

pub returns-in-Hotplug-clause-wanted : goal.returns-in-Hotplug-clause-wanted
returns-in-Hotplug-clause-wanted g c =
    subst (λ (asked : Command). TellsWanted g.M.Line.IrqLine.may_want asked (g.S.Source.left c.args.src.now)
    c.hotplug.result.reports.reports c.hotplug.result.ending) (sym c.in-Hotplug.is)
    (subst (λ (events : List Event). TellsTaken
    (λ (b : BoardSeen). TellsStep g.M.Line.IrqLine.may_want (planned_after b c.in-Hotplug.vectors events))
    (g.S.Source.left c.args.src.now) c.hotplug.result.reports.reports c.hotplug.result.ending)
    c.as_slice-events.ensures.value c.hotplug.ensures.wanted)

pub returns-in-Sleep-clause-does : goal.returns-in-Sleep-clause-does
returns-in-Sleep-clause-does g c =
    let heard : List Run → Type 0 = λ runs. Heard g.H.Handler.hears runs c.args.handlers.now c.take_board-in-Sleep.new.handlers in
    subst (λ (asked : Command). Does heard (g.D.SharedHandler.gave c.args.shared.now)
    (λ placings. Told g.N.Notifier.tells placings c.args.notify.now c.args.notify.now) asked (g.S.Source.left c.args.src.now)
    (g.S.Source.left c.take_board-in-Sleep.new.src) c.take_board-in-Sleep.result.reports.reports (g.O.Sink.written c.args.out.now)
    (g.O.Sink.written c.take_board-in-Sleep.new.out) c.take_board-in-Sleep.result.ending) (sym c.in-Sleep.is) (
      subst (λ (armed : List LineNo). TakesBoard (heard []) (SleepsAs heard armed)
          (g.S.Source.left c.args.src.now) (g.S.Source.left c.take_board-in-Sleep.new.src) c.take_board-in-Sleep.result.reports.reports
          (g.O.Sink.written c.args.out.now) (g.O.Sink.written c.take_board-in-Sleep.new.out) c.take_board-in-Sleep.result.ending)
          c.as_slice-armed.ensures.value c.take_board-in-Sleep.ensures.takes,
      refl,
    )

pub returns-in-Sleep-clause-wanted : goal.returns-in-Sleep-clause-wanted
returns-in-Sleep-clause-wanted g c =
    subst (λ (asked : Command). TellsWanted g.M.Line.IrqLine.may_want asked (g.S.Source.left c.args.src.now)
    c.take_board-in-Sleep.result.reports.reports c.take_board-in-Sleep.result.ending) (sym c.in-Sleep.is)
    (subst (λ (armed : List LineNo). TellsTaken (λ (b : BoardSeen). sleeps.TellsStep g.M.Line.IrqLine.may_want b armed)
    (g.S.Source.left c.args.src.now) c.take_board-in-Sleep.result.reports.reports c.take_board-in-Sleep.result.ending)
    c.as_slice-armed.ensures.value c.take_board-in-Sleep.ensures.wanted)
