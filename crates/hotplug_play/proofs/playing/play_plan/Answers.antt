use Rattle.std.proofs.Common.{◌≡◌, List, [], refl}
use Rattle.irq_base.specs.declared.devices.Run.{Run}
use Rattle.callbacks.specs.Heard.{Heard}
use Rattle.irq_hotplug.specs.Fleet.{fleet_after}
use Rattle.irq_play.specs.Headline.{CutShort, RefusedStep}
use Rattle.irq_play.specs.Played.{runs_of_moves}
use Rattle.hotplug_play.specs.Played.{HotplugHandsOut, planned_after}
use Rattle.hotplug_play.specs.Texts.{hotplug_text}
use Rattle.play_report.proofs.Answered.{no_fault, not_done, of_none, tells_none}
use Rattle.hotplug_play.proofs.Finished.{plays_plan, tells_step}
use Rattle.hotplug_play.proofs.playing.play_plan.Goals as goal

pub report-requires-clause-board : goal.report-requires-clause-board
report-requires-clause-board g c = c.in-Ok.ensures.board

pub report-requires-clause-room : goal.report-requires-clause-room
report-requires-clause-room g c = c.in-Ok.ensures.room

pub returns-in-Ok-clause-plays : goal.returns-in-Ok-clause-plays
returns-in-Ok-clause-plays g c = λ b vectors es plan.
    plays_plan b vectors es c.args.plan.now.fleet c.args.plan.now.board plan g.M.Line.IrqLine.may_want c.in-Ok.play.system c.in-Ok.ensures.board
    c.report.result.reports.reports (g.O.Sink.written c.args.out.now) (g.O.Sink.written c.report.new.out) c.report.result.end c.report.ensures.plays
    (λ (runs : List Run). Heard g.H.Handler.hears runs c.args.handlers.now c.play_system.new.handlers) c.in-Ok.ensures.heard

pub returns-in-Ok-clause-step : goal.returns-in-Ok-clause-step
returns-in-Ok-clause-step g c = λ b vectors es plan.
    tells_step b vectors es c.args.plan.now.fleet c.args.plan.now.board plan g.M.Line.IrqLine.may_want c.in-Ok.play.system c.in-Ok.ensures.board
    c.report.result.reports.reports (g.O.Sink.written c.args.out.now) (g.O.Sink.written c.report.new.out) c.report.result.end c.report.ensures.plays

pub returns-in-Ok-clause-emptied : goal.returns-in-Ok-clause-emptied
returns-in-Ok-clause-emptied g c = c.report.ensures.emptied

pub returns-in-Ok-clause-write_fault : goal.returns-in-Ok-clause-write_fault
returns-in-Ok-clause-write_fault g c = c.report.ensures.write_fault

pub returns-in-Ok-clause-silent : goal.returns-in-Ok-clause-silent
returns-in-Ok-clause-silent g c = c.report.ensures.silent

pub returns-in-Err-clause-plays : goal.returns-in-Err-clause-plays
returns-in-Err-clause-plays g c = λ b vectors es plan.
    let told = g.O.Sink.written c.args.out.now in
    of_none (hotplug_text b (fleet_after b vectors es).said) (HotplugHandsOut b vectors es) (runs_of_moves (planned_after b vectors es))
    (λ (runs : List Run). Heard g.H.Handler.hears runs c.args.handlers.now c.play_system.new.handlers) c.unplayed.result.reports.reports told told
    c.unplayed.result.end c.unplayed.ensures.end c.unplayed.ensures.reports c.in-Err.ensures.unheard

pub returns-in-Err-clause-step : goal.returns-in-Err-clause-step
returns-in-Err-clause-step g c = λ b vectors es plan.
    let planned = planned_after b vectors es in
    tells_none (CutShort planned) (RefusedStep g.M.Line.IrqLine.may_want planned) c.unplayed.result.reports.reports c.unplayed.result.end
    c.unplayed.ensures.end

pub returns-in-Err-clause-emptied : goal.returns-in-Err-clause-emptied
returns-in-Err-clause-emptied g c = not_done c.unplayed.result.end c.unplayed.ensures.end (g.O.Sink.kept c.args.out.now ≡ [])

pub returns-in-Err-clause-write_fault : goal.returns-in-Err-clause-write_fault
returns-in-Err-clause-write_fault g c = no_fault c.unplayed.result.end c.unplayed.ensures.end (g.O.Sink.faults c.args.out.now)

pub returns-in-Err-clause-silent : goal.returns-in-Err-clause-silent
returns-in-Err-clause-silent g c = λ not. refl
