use Rattle.board_def.specs.Seen.{BoardSeen}
use Rattle.callbacks.specs.Heard.{Heard}
use Rattle.irq_play.specs.Played.{PlaysBoard, TellsStep}
use Rattle.irq_top.proofs.Outcomes.{ends_as_any_play, keeps_as_played, tells_as_played}
use Rattle.irq_top.proofs.plays.PlayOnBoard.play.Goals as goal

pub returns-clause-does : goal.returns-clause-does
returns-clause-does g c =
    ends_as_any_play (λ (b : BoardSeen). PlaysBoard b c.args.self.summary
    (λ runs. Heard g.H.Handler.hears runs c.args.handlers.now c.play_and_print.new.handlers)) c.args.board (g.O.Sink.written c.args.out.now)
    (g.O.Sink.written c.play_and_print.new.out) c.play_and_print.result.reports.reports c.of_play.result.reports.reports
    c.play_and_print.result.end c.of_play.result.ending c.of_play.ensures.ending c.of_play.ensures.reports c.play_and_print.ensures.plays

pub returns-clause-wanted : goal.returns-clause-wanted
returns-clause-wanted g c =
    tells_as_played (TellsStep g.M.Line.IrqLine.may_want) c.args.board c.play_and_print.result.reports.reports c.of_play.result.reports.reports
    c.play_and_print.result.end c.of_play.result.ending c.of_play.ensures.ending c.of_play.ensures.reports c.play_and_print.ensures.step

pub returns-clause-keeps : goal.returns-clause-keeps
returns-clause-keeps g c =
    keeps_as_played c.play_and_print.result.end c.of_play.result.ending c.of_play.ensures.ending
    c.play_and_print.ensures.emptied c.play_and_print.ensures.write_fault c.play_and_print.ensures.silent
