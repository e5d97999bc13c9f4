use Rattle.std.proofs.Common.{Bool, List, sym, subst}
use Rattle.board_def.specs.Seen.{BoardSeen}
use Rattle.callbacks.specs.Heard.{Heard}
use Rattle.hotplug_play.specs.Played.{planned_after}
use Rattle.irq_base.specs.declared.devices.Run.{Run}
use Rattle.irq_io.specs.Faults.{Counts}
use Rattle.irq_play.specs.Played.{TellsStep}
use Rattle.irq_top.proofs.Outcomes.{taken_tells, takes_board}
use Rattle.irq_top.specs.Commands.{CallsNobody, HotplugsAs}
use Rattle.notifiers.specs.Told.{Notice, Told}
use Rattle.irq_top.proofs.commands.hotplug.Goals as goal

pub returns-in-Ok-clause-takes : goal.returns-in-Ok-clause-takes
returns-in-Ok-clause-takes g c =
    let heard : List Run → Type 0 = λ runs. Heard g.H.Handler.hears runs c.args.handlers.now c.hotplug_board.new.handlers in
    let placed : List Notice → Type 0 = λ placings. Told g.N.Notifier.tells placings c.args.notify.now c.hotplug_board.new.notify in
    takes_board (CallsNobody heard placed) (HotplugsAs heard placed c.args.vectors c.args.events.now)
    (g.S.Source.left c.args.src.now) (g.S.Source.left c.read_input.new.src) (g.O.Sink.written c.args.out.now)
    (g.O.Sink.written c.hotplug_board.new.out) c.hotplug_board.result.reports.reports c.hotplug_board.result.ending
    c.hotplug_board.ensures.unread
    c.in-Ok.board c.in-Ok.ensures.content c.in-Ok.ensures.stated c.is_board.ensures.board c.hotplug_board.ensures.plays

pub returns-in-Ok-clause-read_fault : goal.returns-in-Ok-clause-read_fault
returns-in-Ok-clause-read_fault g c =
    subst (λ (t : Bool). Counts (g.S.Source.faults c.args.src.now) (g.S.Source.faults c.read_input.new.src) t)
    (sym c.hotplug_board.ensures.unread) c.in-Ok.ensures.cause

pub returns-in-Ok-clause-wanted : goal.returns-in-Ok-clause-wanted
returns-in-Ok-clause-wanted g c =
    taken_tells (λ (b : BoardSeen). TellsStep g.M.Line.IrqLine.may_want (planned_after b c.args.vectors c.args.events.now))
    (g.S.Source.left c.args.src.now) c.hotplug_board.result.reports.reports c.hotplug_board.result.ending c.in-Ok.board
    c.in-Ok.ensures.stated c.hotplug_board.ensures.wanted
