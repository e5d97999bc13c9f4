use Rattle.irq_run.specs.Ran.{RunsBoard, TellsStep}
use Rattle.irq_top.proofs.Outcomes.{ends_as_any_play, keeps_as_played, tells_as_played}
use Rattle.irq_top.proofs.commands.run_board.Goals as goal

pub returns-clause-runs : goal.returns-clause-runs
returns-clause-runs g c =
    ends_as_any_play (λ b. RunsBoard (g.D.SharedHandler.gave c.args.shared.now) b c.args.summary) c.args.board.now (g.O.Sink.written c.args.out.now)
    (g.O.Sink.written c.run_and_print.new.out) c.run_and_print.result.reports.reports c.of_play.result.reports.reports
    c.run_and_print.result.end c.of_play.result.ending c.of_play.ensures.ending c.of_play.ensures.reports c.run_and_print.ensures.runs

pub returns-clause-wanted : goal.returns-clause-wanted
returns-clause-wanted g c =
    tells_as_played (TellsStep g.M.Line.IrqLine.may_want) c.args.board.now c.run_and_print.result.reports.reports
    c.of_play.result.reports.reports c.run_and_print.result.end c.of_play.result.ending c.of_play.ensures.ending c.of_play.ensures.reports
    c.run_and_print.ensures.step

pub returns-clause-keeps : goal.returns-clause-keeps
returns-clause-keeps g c =
    keeps_as_played c.run_and_print.result.end c.of_play.result.ending c.of_play.ensures.ending
    c.run_and_print.ensures.emptied c.run_and_print.ensures.write_fault c.run_and_print.ensures.silent
