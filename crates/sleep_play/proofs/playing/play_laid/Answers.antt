use Rattle.std.proofs.Common.{◌≡◌, ◌++◌, List, [], refl, ◌∙◌}
use Rattle.irq_base.specs.declared.devices.Run.{Run}
use Rattle.callbacks.specs.Heard.{Heard}
use Rattle.log_text.specs.LayoutRows.{layout_rows}
use Rattle.irq_sleeper.specs.Seen.{log_of}
use Rattle.sleep_play.specs.Headline.{RefusedStep, SleepCut, SleepHandsOut}
use Rattle.sleep_play.specs.Played.{runs_of_steps}
use Rattle.sleep_play.specs.Rows.{log_text, sleep_text}
use Rattle.play_report.proofs.Answered.{no_fault, not_done, of_none, tells_none}
use Rattle.sleep_play.proofs.Finished.{sleeps_board, tells_step}
use Rattle.sleep_play.proofs.playing.play_laid.Goals as goal

pub of_board-maker-requires-clause-domains : goal.of_board-maker-requires-clause-domains
of_board-maker-requires-clause-domains g c = c.requires.domains

pub of_board-maker-requires-clause-paths : goal.of_board-maker-requires-clause-paths
of_board-maker-requires-clause-paths g c = c.requires.paths

pub play_sleep-requires-clause-layout : goal.play_sleep-requires-clause-layout
play_sleep-requires-clause-layout g c = c.requires.layout

pub play_sleep-requires-clause-makes : goal.play_sleep-requires-clause-makes
play_sleep-requires-clause-makes g c = c.of_board-maker.ensures.makes

pub report-requires-clause-board : goal.report-requires-clause-board
report-requires-clause-board g c = c.in-Ok.ensures.board

pub report-requires-clause-room : goal.report-requires-clause-room
report-requires-clause-room g c = c.in-Ok.ensures.room

pub returns-in-Ok-clause-plays : goal.returns-in-Ok-clause-plays
returns-in-Ok-clause-plays g c = λ b of.
    let played = c.report.result in
    sleeps_board g.M.Line.IrqLine.may_want b c.args.armed.now c.in-Ok.play.sleeper
    (record {
      longer = record { board = of.board; fits = of.fits; slept = c.in-Ok.ensures.board ∙ of.slept };
      watched = c.in-Ok.ensures.armed;
    })
    played.reports.reports (g.O.Sink.written c.args.out.now) (g.O.Sink.written c.report.new.out) played.end
    (λ (runs : List Run). Heard g.H.Handler.hears runs c.args.handlers.now c.play_sleep.new.handlers)
    c.args.board.now c.in-Ok.ensures.board c.report.ensures.plays c.in-Ok.ensures.heard

pub returns-in-Ok-clause-step : goal.returns-in-Ok-clause-step
returns-in-Ok-clause-step g c = λ b of.
    let played = c.report.result in
    tells_step g.M.Line.IrqLine.may_want b c.args.armed.now c.in-Ok.play.sleeper
    (record {
      longer = record { board = of.board; fits = of.fits; slept = c.in-Ok.ensures.board ∙ of.slept };
      watched = c.in-Ok.ensures.armed;
    })
    played.reports.reports (g.O.Sink.written c.args.out.now) (g.O.Sink.written c.report.new.out) played.end
    (layout_rows c.args.board.now ++ log_text (log_of c.in-Ok.play.sleeper)) c.report.ensures.plays

pub returns-in-Ok-clause-emptied : goal.returns-in-Ok-clause-emptied
returns-in-Ok-clause-emptied g c = c.report.ensures.emptied

pub returns-in-Ok-clause-write_fault : goal.returns-in-Ok-clause-write_fault
returns-in-Ok-clause-write_fault g c = c.report.ensures.write_fault

pub returns-in-Ok-clause-silent : goal.returns-in-Ok-clause-silent
returns-in-Ok-clause-silent g c = c.report.ensures.silent

pub returns-in-Err-clause-plays : goal.returns-in-Err-clause-plays
returns-in-Err-clause-plays g c = λ b of.
    let told = g.O.Sink.written c.args.out.now in
    of_none (sleep_text b) (SleepHandsOut b c.args.armed.now) (runs_of_steps b)
    (λ (runs : List Run). Heard g.H.Handler.hears runs c.args.handlers.now c.play_sleep.new.handlers) c.unplayed.result.reports.reports
    told told c.unplayed.result.end c.unplayed.ensures.end c.unplayed.ensures.reports c.in-Err.ensures.unheard

pub returns-in-Err-clause-step : goal.returns-in-Err-clause-step
returns-in-Err-clause-step g c = λ b of.
    tells_none (SleepCut b c.args.armed.now) (RefusedStep g.M.Line.IrqLine.may_want b c.args.armed.now) c.unplayed.result.reports.reports
    c.unplayed.result.end c.unplayed.ensures.end

pub returns-in-Err-clause-emptied : goal.returns-in-Err-clause-emptied
returns-in-Err-clause-emptied g c = not_done c.unplayed.result.end c.unplayed.ensures.end (g.O.Sink.kept c.args.out.now ≡ [])

pub returns-in-Err-clause-write_fault : goal.returns-in-Err-clause-write_fault
returns-in-Err-clause-write_fault g c = no_fault c.unplayed.result.end c.unplayed.ensures.end (g.O.Sink.faults c.args.out.now)

pub returns-in-Err-clause-silent : goal.returns-in-Err-clause-silent
returns-in-Err-clause-silent g c = λ not. refl
