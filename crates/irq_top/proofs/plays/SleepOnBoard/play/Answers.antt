use Rattle.std.proofs.Common.{◌≡◌, [], false}
use Rattle.board_def.specs.Seen.{BoardSeen}
use Rattle.board_words.specs.declared.faults.FaultKind.TheVariants as faults
use Rattle.irq_pm.specs.SleptBoard.{is_for_sleep}
use Rattle.callbacks.specs.Heard.{Heard}
use Rattle.sleep_play.specs.Played.{SleepsBoard, TellsStep}
use Rattle.irq_top.proofs.Outcomes.{ends_as_played, keeps_as_played, keeps_unfit, tells_as_played}
use Rattle.irq_top.proofs.plays.SleepOnBoard.play.Goals as goal

pub returns-in-Ok-clause-does : goal.returns-in-Ok-clause-does
returns-in-Ok-clause-does g c =
    ends_as_played (λ (b : BoardSeen). is_for_sleep b c.args.self.armed.now ≡ false)
    (Heard g.H.Handler.hears [] c.args.handlers.now c.sleep_and_print.new.handlers) faults.NotForSleep
    (λ (b : BoardSeen). SleepsBoard b c.args.self.armed.now
    (λ runs. Heard g.H.Handler.hears runs c.args.handlers.now c.sleep_and_print.new.handlers)) c.args.board
    (g.O.Sink.written c.args.out.now)
    (g.O.Sink.written c.sleep_and_print.new.out) c.in-Ok.played.reports.reports c.of_play.result.reports.reports
    c.in-Ok.played.end c.of_play.result.ending c.of_play.ensures.ending c.of_play.ensures.reports c.in-Ok.ensures.plays

pub returns-in-Ok-clause-wanted : goal.returns-in-Ok-clause-wanted
returns-in-Ok-clause-wanted g c =
    tells_as_played (λ (b : BoardSeen). TellsStep g.M.Line.IrqLine.may_want b c.args.self.armed.now) c.args.board
    c.in-Ok.played.reports.reports c.of_play.result.reports.reports
    c.in-Ok.played.end c.of_play.result.ending c.of_play.ensures.ending c.of_play.ensures.reports c.in-Ok.ensures.step

pub returns-in-Ok-clause-keeps : goal.returns-in-Ok-clause-keeps
returns-in-Ok-clause-keeps g c =
    keeps_as_played c.in-Ok.played.end c.of_play.result.ending c.of_play.ensures.ending
    c.in-Ok.ensures.emptied c.in-Ok.ensures.write_fault c.in-Ok.ensures.silent

pub returns-in-Err-clause-keeps : goal.returns-in-Err-clause-keeps
returns-in-Err-clause-keeps g c =
    keeps_unfit g.O.Sink.kept g.O.Sink.faults c.args.out.now c.sleep_and_print.new.out _ c.refused.result.ending
    c.refused.ensures.ending c.in-Err.ensures.quiet
