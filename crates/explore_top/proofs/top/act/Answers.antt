use Rattle.std.proofs.Common.{Bool, List, sym, subst}
use Rattle.callbacks.specs.Heard.{Heard}
use Rattle.irq_base.specs.declared.devices.Run.{Run}
use Rattle.irq_io.specs.Faults.{Counts}
use Rattle.explore_top.proofs.Outcomes.{explored, explored_unread}
use Rattle.explore_top.proofs.top.act.Goals as goal

pub returns-in-Ok-clause-does : goal.returns-in-Ok-clause-does
returns-in-Ok-clause-does g c =
    explored c.args.asked (λ (runs : List Run). Heard g.H.Handler.hears runs c.args.handlers.now c.explore_own.new.handlers)
    (g.S.Source.left c.args.src.now) (g.S.Source.left c.read_input.new.src) (g.O.Sink.written c.args.out.now)
    (g.O.Sink.written c.explore_own.new.out) c.in-Ok.board c.in-Ok.ensures.content c.in-Ok.ensures.stated c.is_board.ensures.board c.explore_own.result
    c.explore_own.ensures.does

pub returns-in-Ok-clause-read_fault : goal.returns-in-Ok-clause-read_fault
returns-in-Ok-clause-read_fault g c =
    subst (λ (t : Bool). Counts (g.S.Source.faults c.args.src.now) (g.S.Source.faults c.read_input.new.src) t)
    (sym (explored_unread c.args.asked (λ (runs : List Run). Heard g.H.Handler.hears runs c.args.handlers.now
    c.explore_own.new.handlers) c.in-Ok.board (g.O.Sink.written c.args.out.now) (g.O.Sink.written c.explore_own.new.out)
    c.explore_own.result
    c.explore_own.ensures.does))
    c.in-Ok.ensures.cause
