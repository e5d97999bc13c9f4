use Rattle.std.proofs.Common.{Bool, [], sym, subst}
use Rattle.callbacks.specs.Heard.{Heard}
use Rattle.irq_io.specs.Faults.{Counts}
use Rattle.irq_top.proofs.Outcomes.{taken_tells, takes_board}
use Rattle.irq_top.proofs.taking.take_board.Goals as goal

pub returns-in-Ok-clause-takes : goal.returns-in-Ok-clause-takes
returns-in-Ok-clause-takes g c =
    takes_board (Heard g.H.Handler.hears [] c.args.handlers.now c.play.new.handlers)
    (g.P.OnBoard.does c.args.way (λ runs. Heard g.H.Handler.hears runs c.args.handlers.now c.play.new.handlers)) (g.S.Source.left c.args.src.now)
    (g.S.Source.left c.read_input.new.src) (g.O.Sink.written c.args.out.now) (g.O.Sink.written c.play.new.out)
    c.play.result.reports.reports
    c.play.result.ending c.play.ensures.unread c.in-Ok.board c.in-Ok.ensures.content c.in-Ok.ensures.stated c.is_board.ensures.board c.play.ensures.does

pub returns-in-Ok-clause-read_fault : goal.returns-in-Ok-clause-read_fault
returns-in-Ok-clause-read_fault g c =
    subst (λ (t : Bool). Counts (g.S.Source.faults c.args.src.now) (g.S.Source.faults c.read_input.new.src) t)
    (sym c.play.ensures.unread) c.in-Ok.ensures.cause

pub returns-in-Ok-clause-wanted : goal.returns-in-Ok-clause-wanted
returns-in-Ok-clause-wanted g c =
    taken_tells (g.P.OnBoard.tells c.args.way g.M.Line.IrqLine.may_want) (g.S.Source.left c.args.src.now)
    c.play.result.reports.reports c.play.result.ending c.in-Ok.board c.in-Ok.ensures.stated c.play.ensures.wanted
