use Rattle.std.proofs.Common.{Bool, sym, subst}
use Rattle.irq_io.specs.Faults.{Counts}
use Rattle.irq_run.specs.Ran.{TellsStep}
use Rattle.irq_top.specs.Commands.{RunsAs}
use Rattle.irq_top.proofs.Outcomes.{taken_tells, takes_board}
use Rattle.irq_top.proofs.commands.run.Goals as goal

pub returns-in-Ok-clause-runs : goal.returns-in-Ok-clause-runs
returns-in-Ok-clause-runs g c =
    takes_board (Unit {0}) (RunsAs (g.D.SharedHandler.gave c.args.shared.now) c.args.summary) (g.S.Source.left c.args.src.now)
    (g.S.Source.left c.read_input.new.src) (g.O.Sink.written c.args.out.now) (g.O.Sink.written c.run_board.new.out)
    c.run_board.result.reports.reports c.run_board.result.ending c.run_board.ensures.unread
    c.in-Ok.board c.in-Ok.ensures.content c.in-Ok.ensures.stated c.is_board.ensures.board c.run_board.ensures.runs

pub returns-in-Ok-clause-read_fault : goal.returns-in-Ok-clause-read_fault
returns-in-Ok-clause-read_fault g c =
    subst (λ (t : Bool). Counts (g.S.Source.faults c.args.src.now) (g.S.Source.faults c.read_input.new.src) t)
    (sym c.run_board.ensures.unread) c.in-Ok.ensures.cause

pub returns-in-Ok-clause-wanted : goal.returns-in-Ok-clause-wanted
returns-in-Ok-clause-wanted g c =
    taken_tells (TellsStep g.M.Line.IrqLine.may_want) (g.S.Source.left c.args.src.now) c.run_board.result.reports.reports
    c.run_board.result.ending c.in-Ok.board c.in-Ok.ensures.stated c.run_board.ensures.wanted
