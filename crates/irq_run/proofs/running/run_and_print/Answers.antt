use Rattle.board_core.specs.Seen.{board_lines}
use Rattle.board_report.specs.Reporting.{entries_in}
use Rattle.workers.proofs.Given.{jobs_given}
use Rattle.irq_run.proofs.Told.{runs_board}
use Rattle.irq_run.proofs.running.run_and_print.Goals as goal

pub settle-requires-clause-over : goal.settle-requires-clause-over
settle-requires-clause-over g c = (c.run_shifts.result, c.run_shifts.ensures.end)

pub settle-requires-clause-given : goal.settle-requires-clause-given
settle-requires-clause-given g c =
    jobs_given (g.H.SharedHandler.gave c.args.handlers.now) c.in-Ok.jobs c.run_shifts.new.jobs c.in-Ok.ensures.new c.run_shifts.ensures.grew

pub returns-in-Ok-settle-clause-runs : goal.returns-in-Ok-settle-clause-runs
returns-in-Ok-settle-clause-runs g c =
    runs_board g.M.Line.IrqLine.may_want c.args.board.now c.args.summary (entries_in (board_lines c.in-Ok-settle.system.lines))
    c.report_run.result.reports.reports (g.O.Sink.written c.args.out.now) (g.O.Sink.written c.report_run.new.out)
    (g.H.SharedHandler.gave c.args.handlers.now) c.in-Ok-settle.ensures.given c.report_run.result.end c.report_run.ensures.runs
